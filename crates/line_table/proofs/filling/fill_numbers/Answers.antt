-- `fill_numbers` meets its contract: cell after cell. Assumes nothing.
use native.Mathlib.Omega.{arith}
use Rattle.view.proofs.ViewLaws.{legal}
use Rattle.line_table.specs.LineTable.{node_row}
use Rattle.line_table.proofs.TableCells.{small, next}
use Rattle.line_table.proofs.filling.fill_numbers.Goals as goal

pub put-requires : goal.put-requires
unfolding node_row
put-requires c =
    let row = c.requires.standing.readable in
    let lower = (legal _ row.opened).origin-lower _ c.requires.above row.below in
    next c.requires 0 (omega arith) c.requires.filled (record { same = c.origin.ensures; fits = omega (arith, c.origin.ensures, lower, small row) })

pub put-requires-2 : goal.put-requires-2
unfolding node_row
put-requires-2 c =
    next c.requires 1 (omega arith) c.put.ensures
    (record { same = c.depth.ensures; fits = omega arith })

pub put-requires-3 : goal.put-requires-3
unfolding node_row
put-requires-3 c =
    next c.requires 2 (omega arith) c.put-2.ensures
    (record { same = c.sibling.ensures; fits = omega arith })

pub put-requires-4 : goal.put-requires-4
unfolding node_row
put-requires-4 c =
    next c.requires 3 (omega arith)
    c.put-3.ensures (record { same = c.rank.ensures; fits = omega arith })
