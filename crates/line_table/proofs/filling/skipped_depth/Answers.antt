-- `skipped_depth` meets its contract: the node is no Relocate, or its parent's row has it. Assumes
-- nothing.
use mathlib.Core.Path.{sym, ◌∙◌}
use native.Mathlib.Omega.{arith}
use Rattle.line_table.proofs.TableCells.{cell-within}
use Rattle.line_table.proofs.TableRows.{depth-read, skipped-here, parent-falls, skipped-above}
use Rattle.line_table.proofs.filling.skipped_depth.Goals as goal

pub returns-then-arc-ne-RELOCATE : goal.returns-then-arc-ne-RELOCATE
returns-then-arc-ne-RELOCATE c =
    let depth = c.cell.ensures in
    skipped-here c.requires (λ e. c.if-arc-ne-RELOCATE.true (c.arc.ensures ∙ e)) (depth-read c.requires (omega arith) depth) depth.fits

pub cell-requires-2 : goal.cell-requires-2
cell-requires-2 c =
    cell-within c.requires _ 13 (omega (arith, parent-falls c.requires c.parent.ensures)) (omega arith)

pub returns : goal.returns
returns c =
    skipped-above c.requires c.parent.ensures (sym c.arc.ensures ∙ c.if-arc-ne-RELOCATE.false) c.cell-2.ensures
