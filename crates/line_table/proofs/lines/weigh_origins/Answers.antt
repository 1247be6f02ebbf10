-- `weigh_origins` meets its contract: one origin, one R, or both R are asked. Assumes nothing.
use Rattle.line_table.proofs.EntryLines.{one-origin-settles, one-root, roots-asked}
use Rattle.line_table.proofs.lines.weigh_origins.Goals as goal

pub returns-then-a-b : goal.returns-then-a-b
returns-then-a-b c =
    one-origin-settles _ _ c.if-a-b.true c.same_origin.ensures

pub returns-then-a-b-2 : goal.returns-then-a-b-2
returns-then-a-b-2 c =
    one-root _ _ c.if-a-b.false c.if-a-b-2.true c.weigh_same_root.ensures

pub returns : goal.returns
returns c =
    roots-asked _ _ c.if-a-b.false c.if-a-b-2.false c.by_number.ensures
