-- `fill_sites` meets its contract: cell after cell, of a propagated specializes or of another node.
-- Assumes nothing.
use mathlib.Core.Path.{sym, ◌∙◌}
use native.Mathlib.Omega.{arith}
use Rattle.line_table.specs.LineTable.{node_row}
use Rattle.line_table.proofs.TableCells.{small, test_cell, next}
use Rattle.line_table.proofs.TableRows.{parent-lower, origin-read, propagated-site, propagated-replaced, propagated-outward, other-replaced, other-outward}
use Rattle.line_table.proofs.filling.fill_sites.Goals as goal

pub put-requires : goal.put-requires
unfolding node_row
put-requires c =
    let told = sym c.is_propagated_specializes.ensures ∙ c.if-is_propagated_specializes.true in
    next c.requires 7 (omega arith) c.requires.filled (record { same = propagated-site _ _ told; fits = omega arith })

pub put-requires-then-is_propagated_specializes : goal.put-requires-then-is_propagated_specializes
unfolding node_row
put-requires-then-is_propagated_specializes c =
    let told = sym c.is_propagated_specializes.ensures ∙ c.if-is_propagated_specializes.true in
    let origin = c.cell-origin.ensures in
    next c.requires 8 (omega arith) c.put.ensures (record { same = origin-read c.requires (omega arith) origin ∙ sym (propagated-replaced _ _ told); fits = origin.fits })

pub put-requires-then-is_propagated_specializes-2 : goal.put-requires-then-is_propagated_specializes-2
unfolding node_row
put-requires-then-is_propagated_specializes-2 c =
    let told = sym c.is_propagated_specializes.ensures ∙ c.if-is_propagated_specializes.true in
    let origin = c.cell-origin.ensures in
    next c.requires 9 (omega arith) c.put-then-is_propagated_specializes.ensures (record { same = origin-read c.requires (omega arith) origin ∙ sym (propagated-outward _ _ told); fits = origin.fits })

pub put-requires-else-is_propagated_specializes : goal.put-requires-else-is_propagated_specializes
unfolding node_row
put-requires-else-is_propagated_specializes c =
    next c.requires 7 (omega arith) c.requires.filled (test_cell _ c.from.ensures c.is_implied.ensures)

pub put-requires-else-is_propagated_specializes-2 : goal.put-requires-else-is_propagated_specializes-2
unfolding node_row
put-requires-else-is_propagated_specializes-2 c =
    let told = sym c.is_propagated_specializes.ensures ∙ c.if-is_propagated_specializes.false in
    next c.requires 8 (omega arith) c.put-else-is_propagated_specializes.ensures (record { same = sym (other-replaced _ _ told); fits = omega (arith, small c.requires.standing.readable) })

pub put-requires-else-is_propagated_specializes-3 : goal.put-requires-else-is_propagated_specializes-3
unfolding node_row
put-requires-else-is_propagated_specializes-3 c =
    let told = sym c.is_propagated_specializes.ensures ∙ c.if-is_propagated_specializes.false in
    next c.requires 9 (omega arith) c.put-else-is_propagated_specializes-2.ensures
    (record {
      same = c.parent.ensures ∙ sym (other-outward _ _ told);
      fits = omega (arith, c.parent.ensures, parent-lower c.requires, small c.requires.standing.readable);
    })
