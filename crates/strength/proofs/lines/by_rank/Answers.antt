-- `by_rank` meets its contract: ranks that differ settle it. Assumes nothing.
use Rattle.strength.proofs.VerdictNumbers.{read_same, read-other, read-smaller}
use Rattle.strength.proofs.ComparisonCycle.{ranks-settle}
use Rattle.strength.proofs.lines.by_rank.Goals as goal

pub returns-then-x-y : goal.returns-then-x-y
returns-then-x-y c =
    let x = c.rank-x.ensures in
    let y = c.rank-y.ensures in
    ranks-settle c.requires (read-other x y c.if-x-y.true) (read-smaller x y c.by_number.ensures)

pub returns : goal.returns
returns c =
    read_same c.rank-x.ensures c.rank-y.ensures c.if-x-y.false
