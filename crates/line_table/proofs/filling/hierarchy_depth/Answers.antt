-- `hierarchy_depth` meets its contract: the hierarchy stays at the node, or goes on from the row
-- above or ends there. Assumes nothing.
use mathlib.Core.Path.{sym, ap, ◌∙◌}
use native.Mathlib.Omega.{arith}
use borrow.Author.Tests.{not-true, not-false}
use Rattle.model.specs.Strength.{is_class_based_arc}
use Rattle.line_table.proofs.TableCells.{cell-within}
use Rattle.line_table.proofs.TableRows.{parent-falls, up-falls, hierarchy-above, hierarchy-starts, hierarchy-none}
use Rattle.line_table.proofs.filling.hierarchy_depth.Goals as goal

pub returns-then-not-is_class_based : goal.returns-then-not-is_class_based
returns-then-not-is_class_based c =
    hierarchy-none c.requires.filling (ap is_class_based_arc (sym c.arc.ensures) ∙ sym c.is_class_based.ensures ∙ not-true _ c.if-not-is_class_based.true-raw) c.requires.cell

pub cell-up-requires : goal.cell-up-requires
cell-up-requires c =
    let given = c.requires.filling in
    cell-within given _ 8 (omega (arith, parent-falls given c.parent.ensures)) (omega arith)

pub cell-requires : goal.cell-requires
cell-requires c =
    let given = c.requires.filling in
    cell-within given _ 12 (omega (arith, up-falls given c.parent.ensures c.cell-up.ensures)) (omega arith)

pub cell-requires-then-cell-below : goal.cell-requires-then-cell-below
cell-requires-then-cell-below c =
    let given = c.requires.filling in
    cell-within given _ 14 (omega (arith, up-falls given c.parent.ensures c.cell-up.ensures)) (omega arith)

pub returns-then-cell-below : goal.returns-then-cell-below
returns-then-cell-below c =
    hierarchy-above c.requires.filling c.parent.ensures c.cell-up.ensures
    (ap is_class_based_arc (sym c.arc.ensures) ∙ sym c.is_class_based.ensures ∙ not-false _ c.if-not-is_class_based.false-raw)
    c.requires.below_value c.cell.ensures c.if-cell-below.true c.cell-then-cell-below.ensures

pub cell-requires-2 : goal.cell-requires-2
cell-requires-2 c =
    let given = c.requires.filling in
    cell-within given _ 13 (omega (arith, up-falls given c.parent.ensures c.cell-up.ensures)) (omega arith)

pub returns : goal.returns
returns c =
    hierarchy-starts c.requires.filling c.parent.ensures c.cell-up.ensures
    (ap is_class_based_arc (sym c.arc.ensures) ∙ sym c.is_class_based.ensures ∙ not-false _ c.if-not-is_class_based.false-raw)
    c.requires.below_value c.cell.ensures c.if-cell-below.false c.cell-2.ensures
