-- `root_or_none` meets its contract. Assumes nothing.
use borrow.Author.Tests.{eq-eqb, ne_eqb}
use Rattle.nodes.proofs.calls.root_or_none.Goals as goal

pub returns-then-root-eq0 : goal.returns-then-root-eq0
returns-then-root-eq0 c =
    rw (eq-eqb c.args.root 0 c.if-root-eq0.true)

pub returns : goal.returns
returns c =
    rw (ne_eqb c.args.root 0 c.if-root-eq0.false)
