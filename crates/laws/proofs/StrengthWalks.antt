-- The walks that document 01's lines name, without fuel: each stops, or goes on from its next node;
-- and where each comes to is no higher than where it began. Of any view, or of one whose links go
-- to lower nodes (`LegalView`). Assumes nothing.
use mathlib.Core.Path.{◌≡◌, refl, ap}
use mathlib.Core.Bool.{Bool, true, false, not, ◌&&◌, cond, and-eq-true_iff}
use Prim.Native.Nat.{ℕ, suc, ◌≤◌, ◌<◌}
use native.Mathlib.Omega.{arith}
use lib.Dec.{eqb, ltb}
use borrow.Author.Tests.{eq-eqb, ne_eqb, ltb-true}
use Rattle.model.specs.Node.{relocate_arc}
use Rattle.model.specs.Strength.{View, follow, is_authored, is_propagated_specializes, origin_root_node, origin_hops, outward, is_nested_under, replaced, is_class_based_arc, class_hierarchy_from, starting_node_of_class_hierarchy, skip_relocates}
use Rattle.laws.proofs.Views.{LegalView}
use Rattle.laws.proofs.FollowLaws.{Falls, follow-step, steps-step, follow-stop, steps-stop, follow-le, follow-falls}

-- the walk of `class_hierarchy_from u first`: where it stops, and its step
abbrev pub leaves_class : View → ℕ → ℕ → Bool
leaves_class u first m = not (is_class_based_arc (u.arc m) && u.same_depth_below first m)

abbrev pub class_up : View → ℕ → ℕ
class_up u m = replaced u (u.parent m)

-- ---- Where they stop

module _ (u : View) where
  pub origin-root-zero : origin_root_node u 0 ≡ 0
  unfolding origin_root_node
  origin-root-zero = refl

  pub origin-root-authored : (m : ℕ) → is_authored u m ≡ true → origin_root_node u m ≡ m
  unfolding origin_root_node
  origin-root-authored m e = follow-stop (is_authored u) u.origin m e

  pub origin-hops-zero : origin_hops u 0 ≡ 0
  unfolding origin_hops
  origin-hops-zero = refl

  pub origin-hops-authored : (m : ℕ) → is_authored u m ≡ true → origin_hops u m ≡ 0
  unfolding origin_hops
  origin-hops-authored m e = steps-stop (is_authored u) u.origin m e

  -- "itself counted"
  pub nested-self : (x : ℕ) → is_nested_under u x x ≡ true
  unfolding is_nested_under
  nested-self x = let e = eq-eqb x x refl in rw (follow-stop (λ m. eqb m x) (outward u) x e) e

  pub nested-zero : (y : ℕ) → is_nested_under u 0 y ≡ eqb 0 y
  unfolding is_nested_under
  nested-zero y = refl

  pub class-zero : (first : ℕ) → follow (leaves_class u first) (class_up u) 0 ≡ 0
  class-zero first = refl

  pub class-stop : (first m : ℕ) → leaves_class u first m ≡ true → follow (leaves_class u first) (class_up u) m ≡ m
  class-stop first m e = follow-stop (leaves_class u first) (class_up u) m e

  pub skip-zero : skip_relocates u 0 ≡ 0
  unfolding skip_relocates
  skip-zero = refl

  pub skip_stop : (m : ℕ) → eqb (u.arc m) relocate_arc ≡ false → skip_relocates u m ≡ m
  unfolding skip_relocates
  skip_stop m e = follow-stop (λ c. not (eqb (u.arc c) relocate_arc)) u.parent m (ap not e)

  -- node 0 is not propagated
  pub propagated-positive : (m : ℕ) → is_propagated_specializes u m ≡ true → 0 < m
  unfolding is_propagated_specializes
  propagated-positive m e = ltb-true 0 m ((and-eq-true_iff (ltb 0 m) _).0 e).0

-- ---- How they go on

pub cond_both : (P : ℕ → Type 0) (b : Bool) {x y : ℕ} → P x → P y → P (cond b x y)
cond_both P true h k = h
cond_both P false h k = k

module _ {n : ℕ} {u : View} (legal : LegalView n u) where
  pub origin-below : (m : ℕ) → 0 < m → m < n → u.origin m < n
  origin-below m h p = omega (arith, legal.origin-lower m h p)

  pub parent-below : (m : ℕ) → 0 < m → m < n → u.parent m < n
  parent-below m h p = omega (arith, legal.parent-lower m h p)

  pub outward-lower : Falls n (outward u)
  unfolding outward
  outward-lower m h p = cond_both (λ c. c < m) (is_propagated_specializes u m) (legal.origin-lower m h p) (legal.parent-lower m h p)

  pub replaced-le : (m : ℕ) → m < n → replaced u m ≤ m
  unfolding replaced
  replaced-le m p = go (is_propagated_specializes u m) refl
    where
      go : (b : Bool) → is_propagated_specializes u m ≡ b → cond b (u.origin m) m ≤ m
      go true e = omega (arith, legal.origin-lower m (propagated-positive u m e) p)
      go false e = omega arith

  pub class-up-lower : Falls n (class_up u)
  class-up-lower m h p = let d = legal.parent-lower m h p in omega (arith, replaced-le (u.parent m) (omega arith))

  module _ (m : ℕ) (h : 0 < m) (p : m < n) where
    pub origin-root-step : is_authored u m ≡ false → origin_root_node u m ≡ origin_root_node u (u.origin m)
    unfolding origin_root_node
    origin-root-step e = follow-step legal.origin-lower (is_authored u) m h p e

    pub origin-hops-step : is_authored u m ≡ false → origin_hops u m ≡ suc (origin_hops u (u.origin m))
    unfolding origin_hops
    origin-hops-step e = steps-step legal.origin-lower (is_authored u) m h p e

    pub nested-step : (y : ℕ) → (m ≡ y → ⊥) → is_nested_under u m y ≡ is_nested_under u (outward u m) y
    unfolding is_nested_under
    nested-step y e = rw (follow-step outward-lower (λ c. eqb c y) m h p (ne_eqb m y e))

    pub class-step : (first : ℕ) → leaves_class u first m ≡ false
        → follow (leaves_class u first) (class_up u) m ≡ follow (leaves_class u first) (class_up u) (class_up u m)
    class-step first e = follow-step class-up-lower (leaves_class u first) m h p e

    pub skip_step : eqb (u.arc m) relocate_arc ≡ true → skip_relocates u m ≡ skip_relocates u (u.parent m)
    unfolding skip_relocates
    skip_step e = follow-step legal.parent-lower (λ c. not (eqb (u.arc c) relocate_arc)) m h p (ap not e)

    -- a node that is not authored is above its R
    pub origin-root-lower : is_authored u m ≡ false → origin_root_node u m < m
    unfolding origin_root_node
    origin-root-lower e = follow-falls legal.origin-lower (is_authored u) m h p e

  -- ---- They do not rise, so they come to a node of the view

  module _ (m : ℕ) (p : m < n) where
    pub origin-root-le : origin_root_node u m ≤ m
    unfolding origin_root_node
    origin-root-le = follow-le legal.origin-lower (is_authored u) m p

    pub class-hierarchy-le : class_hierarchy_from u m ≤ m
    class-hierarchy-le = follow-le class-up-lower (leaves_class u m) m p

    pub skip-le : skip_relocates u m ≤ m
    unfolding skip_relocates
    skip-le = follow-le legal.parent-lower (λ c. not (eqb (u.arc c) relocate_arc)) m p

    pub origin-root-below : origin_root_node u m < n
    origin-root-below = omega (arith, origin-root-le)

    pub skip_below : skip_relocates u m < n
    skip_below = omega (arith, skip-le)

    pub replaced-below : replaced u m < n
    replaced-below = omega (arith, replaced-le m p)

  pub starting-node-le : (m : ℕ) → m < n → starting_node_of_class_hierarchy u m ≤ m
  unfolding starting_node_of_class_hierarchy
  starting-node-le m p = omega (arith, replaced-le m p, class-hierarchy-le (replaced u m) (replaced-below m p))

  pub starting-node-below : (m : ℕ) → m < n → starting_node_of_class_hierarchy u m < n
  starting-node-below m p = omega (arith, starting-node-le m p)
