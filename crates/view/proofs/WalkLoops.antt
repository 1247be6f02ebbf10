-- The loops of this crate that walk from a node of an arena's graph, each with its step and its
-- ends: up origins (`Originating`), outward (`Nesting`) and up over relocates (`Skipping`). Assumes
-- nothing.
use mathlib.Core.Path.{◌≡◌, refl, sym, ap, ◌∙◌}
use mathlib.Core.Bool.{true, false}
use mathlib.Core.List.{List}
use Prim.Native.Nat.{ℕ, ◌+◌, ◌≤◌, ◌<◌}
use native.Mathlib.Omega.{arith}
use borrow.Author.Tests.{eq-eqb, ne_eqb}
use Rattle.model.specs.Node.{relocate_arc}
use Rattle.model.specs.ArenaCalls.{ValidNode}
use Rattle.model.specs.Strength.{origin_root_node, origin_hops, outward, is_nested_under, skip_relocates}
use Rattle.laws.proofs.StrengthWalks.{origin-root-zero, origin-root-authored, origin-root-step, origin-hops-zero, origin-hops-authored, origin-hops-step, outward-lower, nested-self, nested-zero, nested-step, skip-zero, skip_stop, skip_step}
use Rattle.view.specs.View.{view_in, ValidNodeAndRoot}
use Rattle.view.proofs.ViewLaws.{legal, readable-lower, standing-lower}
use Rattle.view.specs.Walks.{RootOf}

pub positive : (n : ℕ) → (n ≡ 0 → ⊥) → 0 < n
positive n some = omega arith

-- ---- Up origins

-- the walk from n has come to m by k steps
pub record Originating (bs : List ℕ) (n m k : ℕ) : Type 0 where
  pub readable : ValidNode bs m
  pub within : m + k ≤ n
  pub node : origin_root_node (view_in bs) m ≡ origin_root_node (view_in bs) n
  pub hops : k + origin_hops (view_in bs) m ≡ origin_hops (view_in bs) n

pub originating-start : (bs : List ℕ) (n : ℕ) → ValidNode bs n → Originating bs n n 0
originating-start bs n r = record { readable = r; within = omega arith; node = refl; hops = omega arith }

module _ {bs : List ℕ} {n m k : ℕ} (w : Originating bs n m k) where
  pub originating-zero : m ≡ 0 → RootOf (view_in bs) n (record { node = m; hops = k })
  originating-zero z =
      let none : origin_hops (view_in bs) m ≡ 0 = ap (origin_hops (view_in bs)) z ∙ origin-hops-zero (view_in bs) in
      record {
        node = z ∙ sym (origin-root-zero (view_in bs)) ∙ ap (origin_root_node (view_in bs)) (sym z) ∙ w.node;
        hops = omega (arith, w.hops);
      }

  module _ {origin parent : ℕ} (o : origin ≡ (view_in bs).origin m) (p : parent ≡ (view_in bs).parent m) where
    pub originating-stop : origin ≡ parent → RootOf (view_in bs) n (record { node = m; hops = k })
    originating-stop e =
        let authored = eq-eqb ((view_in bs).origin m) ((view_in bs).parent m) (sym o ∙ e ∙ p) in
        let none : origin_hops (view_in bs) m ≡ 0 = origin-hops-authored (view_in bs) m authored in
        record { node = sym (origin-root-authored (view_in bs) m authored) ∙ w.node; hops = omega (arith, w.hops) }

    module _ (some : m ≡ 0 → ⊥) where
      pub originating-falls : origin < m
      originating-falls = rw o ((legal bs w.readable.opened).origin-lower m (positive m some) w.readable.below)

      pub originating-step : (origin ≡ parent → ⊥) → Originating bs n origin (k + 1)
      originating-step e =
          let graph = legal bs w.readable.opened in
          let falls = originating-falls in
          let given = ne_eqb ((view_in bs).origin m) ((view_in bs).parent m) (λ q. e (o ∙ q ∙ sym p)) in
          record {
            readable = readable-lower bs m origin w.readable (omega arith);
            within = omega (arith, w.within);
            node = rw o (sym (origin-root-step graph m (positive m some) w.readable.below given) ∙ w.node);
            hops = rw o (omega (arith, w.hops, origin-hops-step graph m (positive m some) w.readable.below given));
          }

-- ---- Outward

-- the walk from x has come to m, and has not met y before
pub record Nesting (bs : List ℕ) (root x y m : ℕ) : Type 0 where
  pub standing : ValidNodeAndRoot bs root m
  pub nested : is_nested_under (view_in bs) m y ≡ is_nested_under (view_in bs) x y

pub nesting-start : (bs : List ℕ) (root x y : ℕ) → ValidNodeAndRoot bs root x → Nesting bs root x y x
nesting-start bs root x y s = record { standing = s; nested = refl }

module _ {bs : List ℕ} {root x y m : ℕ} (w : Nesting bs root x y m) where
  pub nesting-met : m ≡ y → true ≡ is_nested_under (view_in bs) x y
  nesting-met e = sym (nested-self (view_in bs) y) ∙ ap (λ (c : ℕ). is_nested_under (view_in bs) c y) (sym e) ∙ w.nested

  pub nesting-zero : (m ≡ y → ⊥) → m ≡ 0 → false ≡ is_nested_under (view_in bs) x y
  nesting-zero d z =
      sym (ne_eqb 0 y (λ e. d (z ∙ e))) ∙ sym (nested-zero (view_in bs) y)
      ∙ ap (λ (c : ℕ). is_nested_under (view_in bs) c y) (sym z) ∙ w.nested

  module _ {next : ℕ} (e : next ≡ outward (view_in bs) m) (some : m ≡ 0 → ⊥) where
    pub nesting-falls : next < m
    nesting-falls = rw e (outward-lower (legal bs w.standing.readable.opened) m (positive m some) w.standing.readable.below)

    pub nesting-step : (m ≡ y → ⊥) → Nesting bs root x y next
    nesting-step d =
        let graph = legal bs w.standing.readable.opened in
        let falls = nesting-falls in
        record {
          standing = standing-lower bs root m next w.standing (omega arith);
          nested = rw e (sym (nested-step graph m (positive m some) w.standing.readable.below y d) ∙ w.nested);
        }

-- ---- Up over relocates

-- the walk from n has come to m
pub record Skipping (bs : List ℕ) (n m : ℕ) : Type 0 where
  pub readable : ValidNode bs m
  pub skipped : skip_relocates (view_in bs) m ≡ skip_relocates (view_in bs) n

pub skipping-start : (bs : List ℕ) (n : ℕ) → ValidNode bs n → Skipping bs n n
skipping-start bs n r = record { readable = r; skipped = refl }

module _ {bs : List ℕ} {n m : ℕ} (w : Skipping bs n m) where
  pub skipping-zero : m ≡ 0 → m ≡ skip_relocates (view_in bs) n
  skipping-zero z = z ∙ sym (skip-zero (view_in bs)) ∙ ap (skip_relocates (view_in bs)) (sym z) ∙ w.skipped

  pub skipping-stop : {arc : ℕ} → arc ≡ (view_in bs).arc m → (arc ≡ relocate_arc → ⊥) → m ≡ skip_relocates (view_in bs) n
  skipping-stop a d = sym (skip_stop (view_in bs) m (ne_eqb ((view_in bs).arc m) relocate_arc (λ e. d (a ∙ e)))) ∙ w.skipped

  module _ {parent : ℕ} (p : parent ≡ (view_in bs).parent m) (some : m ≡ 0 → ⊥) where
    pub skipping-falls : parent < m
    skipping-falls = rw p ((legal bs w.readable.opened).parent-lower m (positive m some) w.readable.below)

    pub skipping_step : {arc : ℕ} → arc ≡ (view_in bs).arc m → arc ≡ relocate_arc → Skipping bs n parent
    skipping_step a e =
        let falls = skipping-falls in
        let relocate = eq-eqb ((view_in bs).arc m) relocate_arc (sym a ∙ e) in
        record {
          readable = readable-lower bs m parent w.readable (omega arith);
          skipped = rw p (sym (skip_step (legal bs w.readable.opened) m (positive m some) w.readable.below relocate) ∙ w.skipped);
        }
