-- `within` meets its contract: each test gives the definition's own. Assumes nothing.
use borrow.Author.Tests.{le-leb, lt-leb}
use Rattle.path.proofs.scan.within.Goals as goal

pub returns-then-low-b : goal.returns-then-low-b
returns-then-low-b c =
    simp (le-leb _ _ c.if-low-b.true)

pub returns : goal.returns
returns c =
    simp (lt-leb _ _ c.if-low-b.false)
