-- `weigh_plain` meets its contract: the depths differ, or the origins are asked. Assumes nothing.
use Rattle.strength.proofs.VerdictNumbers.{read_same, read-other, read-smaller}
use Rattle.strength.proofs.SiblingLines.{depths-differ, origins-then-siblings}
use Rattle.strength.proofs.lines.weigh_plain.Goals as goal

pub returns-then-x-y : goal.returns-then-x-y
returns-then-x-y c =
    let x = c.depth-x.ensures in
    let y = c.depth-y.ensures in
    depths-differ _ _ _ _ (read-other x y c.if-x-y.true) (read-smaller y x c.by_number.ensures)

pub returns : goal.returns
returns c =
    let same = read_same c.depth-x.ensures c.depth-y.ensures c.if-x-y.false in
    origins-then-siblings c.requires same c.origin-from.ensures c.origin-to.ensures c.by_sibling.ensures
