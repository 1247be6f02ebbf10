-- `class_depth` meets its contract: 0, or from the row that replaces the origin. Assumes nothing.
use native.Mathlib.Omega.{arith}
use Rattle.line_table.proofs.TableCells.{cell-within}
use Rattle.line_table.proofs.TableRows.{bit-set, bit-clear, origin-lower, origin-read, authored-read, authored-class, replaced-falls, class-from-origin}
use Rattle.line_table.proofs.filling.class_depth.Goals as goal

pub returns-then-cell-eq1 : goal.returns-then-cell-eq1
returns-then-cell-eq1 c =
    let authored = bit-set _ (authored-read c.requires (omega arith) c.cell.ensures) c.if-cell-eq1.true in
    authored-class c.requires authored

pub cell-requires-2 : goal.cell-requires-2
cell-requires-2 c =
    cell-within c.requires _ 8 (omega (arith, origin-read c.requires (omega arith) c.cell-origin.ensures, origin-lower c.requires)) (omega arith)

pub cell-requires-3 : goal.cell-requires-3
cell-requires-3 c =
    let authored = bit-clear _ (authored-read c.requires (omega arith) c.cell.ensures) c.if-cell-eq1.false in
    let falls = replaced-falls c.requires authored (origin-read c.requires (omega arith) c.cell-origin.ensures) c.cell-2.ensures in
    cell-within c.requires _ 14 (omega (arith, falls)) (omega arith)

pub returns : goal.returns
returns c =
    let authored = bit-clear _ (authored-read c.requires (omega arith) c.cell.ensures) c.if-cell-eq1.false in
    class-from-origin c.requires authored (origin-read c.requires (omega arith) c.cell-origin.ensures) c.cell-2.ensures c.cell-3.ensures
