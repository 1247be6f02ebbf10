-- `entry_of` meets its contract: each column is the entry's. Assumes nothing.
use mathlib.Core.Path.{◌≡◌, refl, ◌∙◌}
use mathlib.Core.List.{List}
use Prim.Native.Nat.{ℕ, ◌+◌, ◌*◌, ◌<◌}
use native.Mathlib.Omega.{arith}
use lib.ListN.{get_or}
use Rattle.model.specs.Arena.{count_in}
use Rattle.line_table.specs.LineTable.{node_row, Tabled}
use Rattle.line_table.proofs.TableCells.{own_row, cell, told}
use Rattle.line_table.proofs.entry_of.Goals as goal

-- what stands in the row
at : {bs t : List ℕ} {n : ℕ} → Tabled bs t × (0 < n) × (n < count_in bs) → (k : ℕ) → k < 16 → get_or t (n * 16 + k) 0 ≡ get_or (own_row bs n) k 0
at {bs} {t} {n} given k l = cell given.0 n k given.1 l (omega (arith, given.2))

pub returns : goal.returns
unfolding node_row
returns c = (
  refl,
  record {
    rank = c.cell.ensures.same ∙ at c.requires 3 (omega arith);
    depth = c.cell-2.ensures.same ∙ at c.requires 1 (omega arith);
    sibling = c.cell-3.ensures.same ∙ at c.requires 2 (omega arith);
    origin = c.cell-4.ensures.same ∙ at c.requires 0 (omega arith);
    special = told _ (c.cell-5.ensures.same ∙ at c.requires 4 (omega arith));
    authored = told _ (c.cell-6.ensures.same ∙ at c.requires 5 (omega arith));
    implied = told _ (c.cell-7.ensures.same ∙ at c.requires 7 (omega arith));
    local = told _ (c.cell-8.ensures.same ∙ at c.requires 6 (omega arith));
    root = c.cell-9.ensures.same ∙ at c.requires 10 (omega arith);
    hops = c.cell-10.ensures.same ∙ at c.requires 11 (omega arith);
    class-depth = c.cell-11.ensures.same ∙ at c.requires 15 (omega arith);
  },
)
