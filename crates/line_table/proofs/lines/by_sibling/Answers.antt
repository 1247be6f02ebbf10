-- `by_sibling` meets its contract. Assumes nothing.
use Rattle.line_table.proofs.EntryLines.{siblings-differ, siblings-same}
use Rattle.line_table.proofs.lines.by_sibling.Goals as goal

pub returns-then-a-b : goal.returns-then-a-b
returns-then-a-b c =
    siblings-differ _ _ c.if-a-b.true c.by_number.ensures

pub returns : goal.returns
returns c =
    siblings-same _ _ c.if-a-b.false c.by_number-2.ensures
