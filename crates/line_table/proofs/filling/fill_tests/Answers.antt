-- `fill_tests` meets its contract: cell after cell. Assumes nothing.
use native.Mathlib.Omega.{arith}
use Rattle.line_table.specs.LineTable.{node_row}
use Rattle.line_table.proofs.TableCells.{test_cell, next}
use Rattle.line_table.proofs.filling.fill_tests.Goals as goal

pub put-requires : goal.put-requires
unfolding node_row
put-requires c =
    next c.requires 4 (omega arith) c.requires.filled (test_cell _ c.from.ensures c.has_specializes.ensures)

pub put-requires-2 : goal.put-requires-2
unfolding node_row
put-requires-2 c =
    next c.requires 5 (omega arith) c.put.ensures
    (test_cell _ c.from-2.ensures c.is_authored.ensures)

pub put-requires-3 : goal.put-requires-3
unfolding node_row
put-requires-3 c =
    next c.requires 6 (omega arith) c.put-2.ensures
    (test_cell _ c.from-3.ensures c.in_local_stack.ensures)
