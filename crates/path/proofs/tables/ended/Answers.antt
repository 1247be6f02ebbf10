-- `ended` meets its contract: the two states in which a path may end. Assumes nothing.
use borrow.Author.Tests.{eq-eqb, ne_eqb}
use Rattle.path.proofs.tables.ended.Goals as goal

pub returns-then-end-eq14 : goal.returns-then-end-eq14
returns-then-end-eq14 c =
    rw (eq-eqb _ _ c.if-end-eq14.true)

pub returns-then-end-eq42 : goal.returns-then-end-eq42
returns-then-end-eq42 c =
    rw (ne_eqb _ _ c.if-end-eq14.false, eq-eqb _ _ c.if-end-eq42.true)

pub returns : goal.returns
returns c =
    rw (ne_eqb _ _ c.if-end-eq14.false, ne_eqb _ _ c.if-end-eq42.false)
