-- `fill_root` meets its contract: cell after cell. Assumes nothing.
use mathlib.Core.Path.{refl}
use native.Mathlib.Omega.{arith}
use lib.ListN.{length-set}
use Rattle.line_table.specs.LineTable.{root_row}
use Rattle.line_table.proofs.TableCells.{unfilled, store}
use Rattle.line_table.proofs.filling.fill_root.Goals as goal

pub bounds-table-9 : goal.bounds-table-9
bounds-table-9 c =
    simp length-set (omega arith)

pub bounds-table-10 : goal.bounds-table-10
bounds-table-10 c =
    simp length-set (omega arith)

pub bounds-table-11 : goal.bounds-table-11
bounds-table-11 c =
    simp length-set (omega arith)

pub bounds-table-12 : goal.bounds-table-12
bounds-table-12 c =
    simp length-set (omega arith)

pub bounds-table-13 : goal.bounds-table-13
bounds-table-13 c =
    simp length-set (omega arith)

pub bounds-table-14 : goal.bounds-table-14
bounds-table-14 c =
    simp length-set (omega arith)

pub bounds-table-15 : goal.bounds-table-15
bounds-table-15 c =
    simp length-set (omega arith)

pub returns : goal.returns
unfolding root_row
returns c =
    let below = c.requires.0.below in
    store below 15 (omega arith) refl refl
    (store below 14 (omega arith) refl c.depth-depth.ensures
    (store below 13 (omega arith) refl c.depth-depth.ensures
    (store below 12 (omega arith) refl refl
    (store below 11 (omega arith) refl refl
    (store below 10 (omega arith) refl refl
    (store below 9 (omega arith) refl refl
    (store below 8 (omega arith) refl refl
    (unfilled _ c.args.table.now c.requires.1))))))))
