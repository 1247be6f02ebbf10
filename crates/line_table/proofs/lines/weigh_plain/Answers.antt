-- `weigh_plain` meets its contract: the depths differ, or the origins are asked. Assumes nothing.
use Rattle.line_table.proofs.EntryLines.{depths-differ, origins-asked}
use Rattle.line_table.proofs.lines.weigh_plain.Goals as goal

pub returns-then-a-b : goal.returns-then-a-b
returns-then-a-b c =
    depths-differ _ _ c.if-a-b.true c.by_number.ensures

pub returns : goal.returns
returns c =
    origins-asked _ _ c.if-a-b.false c.by_sibling.ensures
