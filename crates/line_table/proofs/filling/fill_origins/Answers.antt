-- `fill_origins` meets its contract: cell after cell, of an authored node or from the row of its
-- origin. Assumes nothing.
use native.Mathlib.Omega.{arith}
use Rattle.line_table.specs.LineTable.{node_row}
use Rattle.line_table.proofs.TableCells.{next, cell-within}
use Rattle.line_table.proofs.TableRows.{bit-set, bit-clear, origin-lower, origin-read, authored-read, authored-root, authored-hops, root-from-origin, hops-from-origin}
use Rattle.line_table.proofs.filling.fill_origins.Goals as goal

pub put-requires : goal.put-requires
unfolding node_row
put-requires c =
    let authored = bit-set _ (authored-read c.requires (omega arith) c.cell.ensures) c.if-cell-eq1.true in
    next c.requires 10 (omega arith) c.requires.filled (authored-root c.requires authored)

pub put-requires-then-cell-eq1 : goal.put-requires-then-cell-eq1
unfolding node_row
put-requires-then-cell-eq1 c =
    let authored = bit-set _ (authored-read c.requires (omega arith) c.cell.ensures) c.if-cell-eq1.true in
    next c.requires 11 (omega arith) c.put.ensures (authored-hops c.requires authored)

pub cell-first-requires : goal.cell-first-requires
cell-first-requires c =
    cell-within c.requires _ 10 (omega (arith, origin-read c.requires (omega arith) c.cell-from.ensures, origin-lower c.requires)) (omega arith)

pub cell-hops-requires : goal.cell-hops-requires
cell-hops-requires c =
    cell-within c.requires _ 11 (omega (arith, origin-read c.requires (omega arith) c.cell-from.ensures, origin-lower c.requires)) (omega arith)

pub put-requires-else-cell-eq1 : goal.put-requires-else-cell-eq1
unfolding node_row
put-requires-else-cell-eq1 c =
    let authored = bit-clear _ (authored-read c.requires (omega arith) c.cell.ensures) c.if-cell-eq1.false in
    next c.requires 10 (omega arith) c.requires.filled
    (root-from-origin c.requires authored (origin-read c.requires (omega arith) c.cell-from.ensures) c.cell-first.ensures)

pub put-requires-else-cell-eq1-2 : goal.put-requires-else-cell-eq1-2
unfolding node_row
put-requires-else-cell-eq1-2 c =
    let authored = bit-clear _ (authored-read c.requires (omega arith) c.cell.ensures) c.if-cell-eq1.false in
    next c.requires 11 (omega arith) c.put-else-cell-eq1.ensures
    (hops-from-origin c.requires authored (origin-read c.requires (omega arith) c.cell-from.ensures) c.cell-hops.ensures)
