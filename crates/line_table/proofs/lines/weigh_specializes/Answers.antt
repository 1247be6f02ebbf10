-- `weigh_specializes` meets its contract: the depth line is passed, or settles. Assumes nothing.
use Rattle.line_table.proofs.EntryLines.{depths-same, nested-passed, larger-depth}
use Rattle.line_table.proofs.lines.weigh_specializes.Goals as goal

pub returns-then-a-b : goal.returns-then-a-b
returns-then-a-b c =
    depths-same _ _ _ c.if-a-b.true c.weigh_origins.ensures

pub returns-then-nested : goal.returns-then-nested
returns-then-nested c =
    nested-passed _ _ _ c.if-a-b.false c.if-nested.true c.weigh_origins-then-nested.ensures

pub returns : goal.returns
returns c =
    larger-depth _ _ _ c.if-a-b.false c.if-nested.false c.by_number.ensures
