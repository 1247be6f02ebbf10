-- `fill_classes` meets its contract: cell after cell. Assumes nothing.
use native.Mathlib.Omega.{arith}
use Rattle.line_table.specs.LineTable.{node_row}
use Rattle.line_table.proofs.TableCells.{next}
use Rattle.line_table.proofs.filling.fill_classes.Goals as goal

pub put-requires : goal.put-requires
unfolding node_row
put-requires c =
    let below = c.depth_below-below.ensures in
    next c.requires 12 (omega arith) c.requires.filled (record { same = below.0; fits = omega (arith, below.1) })

pub put-requires-2 : goal.put-requires-2
unfolding node_row
put-requires-2 c =
    next c.requires 13 (omega arith) c.put.ensures c.skipped_depth-skipped.ensures

pub put-requires-3 : goal.put-requires-3
unfolding node_row
put-requires-3 c =
    next c.requires 14 (omega arith) c.put-2.ensures
    c.hierarchy_depth-hierarchy.ensures

pub put-requires-4 : goal.put-requires-4
unfolding node_row
put-requires-4 c =
    next c.requires 15 (omega arith) c.put-3.ensures c.class_depth-class.ensures
