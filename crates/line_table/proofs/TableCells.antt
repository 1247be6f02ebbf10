-- Cells of the table: a test as one (`test_cell`), what a filled table has in a row (`cell`, and
-- `lower` in one that may be row 0), and one cell more (`store`). Assumes nothing.
use mathlib.Core.Path.{◌≡◌, refl, sym, ap, ◌∙◌}
use mathlib.Core.Bool.{Bool, true, false}
use mathlib.Core.List.{List}
use Prim.Native.Nat.{ℕ, ◌+◌, ◌*◌, ◌≤◌, ◌<◌}
use native.Mathlib.Omega.{arith}
use lib.Dec.{eqb}
use lib.ListN.{length, length-set, get_or, set}
use lib.Seq.{get_or-set_same, get_or-set_other}
use mir.Val.{bool_byte}
use borrow.Author.Tests.{eq-eqb, ne_eqb, eqb-true, eqb-false}
use Rattle.model.specs.Lists.{bit}
use Rattle.model.specs.Graph.{depth_below_introduction}
use Rattle.model.specs.Arena.{count_in, decode}
use Rattle.model.specs.Strength.{is_propagated_specializes, origin_root_node, origin_hops, replaced}
use Rattle.model.specs.ArenaCalls.{ValidNode}
use Rattle.laws.proofs.StrengthWalks.{origin-root-zero, origin-hops-zero, skip-zero}
use Rattle.arena.proofs.HeldArenas.{held}
use Rattle.view.specs.View.{view_in}
use Rattle.view.proofs.ViewLaws.{depth-of-0}
use Rattle.line_table.specs.LineTable.{skipped_depth, hierarchy_depth, node_row, root_row, row_in, Filled, Cell, Next, Filling}

-- the row of a node other than 0
abbrev pub own_row : List ℕ → ℕ → List ℕ
own_row bs n = node_row (view_in bs) (depth_below_introduction (decode bs).nodes) n

row-own : (bs : List ℕ) (n : ℕ) → 0 < n → row_in bs n ≡ own_row bs n
row-own bs n h = rw (ne_eqb n 0 (λ z. omega arith))

-- a test as a number
pub test_cell : (s : Bool) {t : Bool} {v : ℕ} → v ≡ bool_byte s → s ≡ t → Cell (bit t) v
test_cell true e same = record { same = e ∙ ap bit same; fits = omega (arith, e) }
test_cell false e same = record { same = e ∙ ap bit same; fits = omega (arith, e) }

-- ---- What is there

-- what may be read of row n, also of row 0
pub record Lower (bs table : List ℕ) (n : ℕ) : Type 0 where
  pub replaced-by : get_or table (n * 16 + 8) 0 ≡ replaced (view_in bs) n
  pub root : get_or table (n * 16 + 10) 0 ≡ origin_root_node (view_in bs) n
  pub hops : get_or table (n * 16 + 11) 0 ≡ origin_hops (view_in bs) n
  pub below : get_or table (n * 16 + 12) 0 ≡ depth_below_introduction (decode bs).nodes n
  pub skipped : get_or table (n * 16 + 13) 0 ≡ skipped_depth (view_in bs) n
  pub hierarchy : get_or table (n * 16 + 14) 0 ≡ hierarchy_depth (view_in bs) n

module _ {bs t : List ℕ} {end : ℕ} (f : Filled bs t end) where
  pub cell : (n k : ℕ) → 0 < n → k < 16 → n * 16 + k < end → get_or t (n * 16 + k) 0 ≡ get_or (own_row bs n) k 0
  cell n k h l e = f.cells n k l (omega arith) e ∙ ap (λ (row : List ℕ). get_or row k 0) (row-own bs n h)

  pub lower : (n : ℕ) → n * 16 + 16 ≤ end → Lower bs t n
  unfolding node_row root_row replaced is_propagated_specializes
  lower n e = go n e (eqb n 0) refl
    where
      go : (n : ℕ) → n * 16 + 16 ≤ end → (b : Bool) → eqb n 0 ≡ b → Lower bs t n
      go n e true z = rw (eqb-true n 0 z) record {
        replaced-by = f.cells 0 8 (omega arith) (omega arith) (omega arith);
        root = f.cells 0 10 (omega arith) (omega arith) (omega arith) ∙ rw (origin-root-zero (view_in bs));
        hops = f.cells 0 11 (omega arith) (omega arith) (omega arith) ∙ rw (origin-hops-zero (view_in bs));
        below = f.cells 0 12 (omega arith) (omega arith) (omega arith) ∙ rw (depth-of-0 bs 0 refl);
        skipped = f.cells 0 13 (omega arith) (omega arith) (omega arith) ∙ ap (view_in bs).depth (sym (skip-zero (view_in bs)));
        hierarchy = f.cells 0 14 (omega arith) (omega arith) (omega arith) ∙ ap (view_in bs).depth (sym (skip-zero (view_in bs)));
      }
      go n e false z =
          let some = eqb-false n 0 z in
          record {
            replaced-by = cell n 8 (omega arith) (omega arith) (omega arith);
            root = cell n 10 (omega arith) (omega arith) (omega arith);
            hops = cell n 11 (omega arith) (omega arith) (omega arith);
            below = cell n 12 (omega arith) (omega arith) (omega arith);
            skipped = cell n 13 (omega arith) (omega arith) (omega arith);
            hierarchy = cell n 14 (omega arith) (omega arith) (omega arith);
          }

-- a test from the number that stands for it
pub told : {x : ℕ} (b : Bool) → x ≡ bit b → eqb x 1 ≡ b
told {x} true e = eq-eqb x 1 e
told {x} false e = ne_eqb x 1 (λ z. omega arith)

-- ---- One cell more

pub unfilled : (bs t : List ℕ) → count_in bs * 16 ≤ length t → Filled bs t 8
unfilled bs t h = record { long = h; cells = λ n k l low under. absurd (omega arith) }

module _ {bs : List ℕ} {n : ℕ} (below : n < count_in bs) where
  pub store : (k : ℕ) {t : List ℕ} {i v : ℕ} → k < 16 → i ≡ n * 16 + k → v ≡ get_or (row_in bs n) k 0 → Filled bs t (n * 16 + k)
      → Filled bs (set t i v) (n * 16 + (k + 1))
  store k {t} {i} {v} small at e f = rw at record {
    long = omega (arith, f.long, length-set t (n * 16 + k) v);
    cells = λ m j l low under. go m j l low under (eqb (m * 16 + j) (n * 16 + k)) refl;
  }
    where
      go : (m j : ℕ) → j < 16 → 8 ≤ m * 16 + j → m * 16 + j < n * 16 + (k + 1) → (b : Bool) → eqb (m * 16 + j) (n * 16 + k) ≡ b
          → get_or (set t (n * 16 + k) v) (m * 16 + j) 0 ≡ get_or (row_in bs m) j 0
      go m j l low under true z =
          let one : m * 16 + j ≡ n * 16 + k = eqb-true _ _ z in
          let row : m ≡ n = omega arith in
          let column : j ≡ k = omega arith in
          rw (row, column) (get_or-set_same t (n * 16 + k) v 0 (omega (arith, f.long)) ∙ e)
      go m j l low under false z =
          let other = eqb-false (m * 16 + j) (n * 16 + k) z in
          get_or-set_other t (n * 16 + k) (m * 16 + j) v 0 other ∙ f.cells m j l low (omega arith)

-- ---- What comes next

-- a node's number is small
pub small : {bs : List ℕ} {n : ℕ} → ValidNode bs n → n < 1024
small {bs} {n} r = omega (arith, r.below, (held bs r.opened.holds).few)

module _ {bs : List ℕ} {root n columns : ℕ} {first : List ℕ} (f : Filling bs first root n columns) where
  pub next : (k : ℕ) {t : List ℕ} {v : ℕ} → k < 16 → Filled bs t (n * 16 + k) → Cell (get_or (own_row bs n) k 0) v → Next bs t n k v
  next k l g e = record {
    filled = g;
    below = f.standing.readable.below;
    column = l;
    value = rw (row-own bs n f.above) e;
  }

  pub filled-to : (k : ℕ) {t : List ℕ} → Filled bs t (n * 16 + k) → Filling bs t root n k
  filled-to k g = record { standing = f.standing; above = f.above; filled = g }

  -- row m is below
  pub cell-within : (m k : ℕ) → m ≤ n → k < 16 → m * 16 + k < length first
  cell-within m k l h = omega (arith, f.standing.readable.below, f.filled.long)

  pub own : (k : ℕ) → k < columns → k < 16 → get_or first (n * 16 + k) 0 ≡ get_or (own_row bs n) k 0
  own k l h = cell f.filled n k f.above h (omega arith)

  pub lower-row : (m : ℕ) → m < n → Lower bs first m
  lower-row m l = lower f.filled m (omega arith)
