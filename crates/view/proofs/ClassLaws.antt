-- The walk of a class hierarchy from a node of an arena's graph: where it stands and the last node
-- that it left, together (`Rising`), from `rising-start` by `rising_step` to `rising-zero`,
-- `rising-by-arc` and `rising-by-depth`. Assumes nothing.
use mathlib.Core.Path.{◌≡◌, refl, sym, ap, ◌∙◌}
use mathlib.Core.Bool.{Bool, true, false, cond, and-eq-true_iff, and-false}
use mathlib.Core.List.{List}
use Prim.Native.Nat.{ℕ, ◌≤◌, ◌<◌}
use native.Mathlib.Omega.{arith}
use lib.Dec.{eqb, leb}
use borrow.Author.Tests.{eq-eqb, ne_eqb, lt-ltb, eqb-true, leb-true}
use Rattle.model.specs.Node.{Node, invalid}
use Rattle.model.specs.Graph.{depth_below_introduction}
use Rattle.model.specs.Arena.{count_in, decode, holds_graph}
use Rattle.model.specs.ArenaCalls.{ValidNode}
use Rattle.model.specs.Strength.{View, view, follow, is_class_based_arc, replaced, starting_node_of_class_hierarchy}
use Rattle.model.specs.Hierarchy.{later_or, left_up_to, topmost_class_node}
use Rattle.laws.proofs.FollowLaws.{left_step, left-stop}
use Rattle.laws.proofs.StrengthWalks.{leaves_class, class_up, replaced-le, class-up-lower, class-stop, class-step}
use Rattle.view.specs.View.{view_in, ValidNodeAndRoot}
use Rattle.view.proofs.ViewLaws.{legal, standing-lower}
use Rattle.view.specs.Walks.{HierarchyOf}
use Rattle.view.proofs.WalkLoops.{positive}

-- ---- Where it stops

module _ (ns : List Node) (first m : ℕ) where
  leaves-by-arc : is_class_based_arc ((view ns).arc m) ≡ false → leaves_class (view ns) first m ≡ true
  leaves-by-arc e = rw e

  module _ (h : 0 < first) (l : 0 < m) where
    leaves-by-depth : (depth_below_introduction ns m ≡ depth_below_introduction ns first → ⊥) → leaves_class (view ns) first m ≡ true
    leaves-by-depth d =
        rw (
          lt-ltb 0 first h,
          lt-ltb 0 m l,
          ne_eqb (depth_below_introduction ns first) (depth_below_introduction ns m) (λ e. d (sym e)),
          and-false,
        )

    stays : is_class_based_arc ((view ns).arc m) ≡ true → depth_below_introduction ns m ≡ depth_below_introduction ns first
        → leaves_class (view ns) first m ≡ false
    stays e d =
        rw (e, lt-ltb 0 first h, lt-ltb 0 m l, eq-eqb (depth_below_introduction ns first) (depth_below_introduction ns m) (sym d))

-- ---- The last node left

-- no node of an arena is `invalid`
named : (bs : List ℕ) (n : ℕ) → ValidNode bs n → n < invalid
unfolding holds_graph
named bs n r = omega (arith, r.below, leb-true (count_in bs) 1024 ((and-eq-true_iff (leb (count_in bs) 1024) _).0 r.opened.holds).0)

abbrev left_from : View → ℕ → ℕ → ℕ
left_from u first m = left_up_to (leaves_class u first) (class_up u) m m

none-later : (x : ℕ) → later_or invalid x ≡ x
none-later x = go (eqb x invalid) refl
  where
    go : (t : Bool) → eqb x invalid ≡ t → cond t invalid x ≡ x
    go true e = sym (eqb-true x invalid e)
    go false e = refl

later-later : (c m x : ℕ) → m < invalid → later_or c (later_or m x) ≡ later_or m x
later-later c m x h = go (eqb x invalid) refl
  where
    go : (t : Bool) → eqb x invalid ≡ t → later_or c (cond t m x) ≡ cond t m x
    go true e = rw (ne_eqb m invalid (λ z. omega arith))
    go false e = rw e

-- ---- The loop

-- the walk from n has come to m, and last left c; `depth` is the first node's
pub record Rising (bs : List ℕ) (root n depth m c : ℕ) : Type 0 where
  pub standing : ValidNodeAndRoot bs root m
  pub first-depth : depth ≡ depth_below_introduction (decode bs).nodes (replaced (view_in bs) n)
  pub within : m ≤ replaced (view_in bs) n
  pub instance : follow (leaves_class (view_in bs) (replaced (view_in bs) n)) (class_up (view_in bs)) m ≡ starting_node_of_class_hierarchy (view_in bs) n
  pub class-node : later_or c (left_from (view_in bs) (replaced (view_in bs) n) m) ≡ topmost_class_node (view_in bs) n

module _ {bs : List ℕ} {root n first : ℕ} (s : ValidNodeAndRoot bs root n) (e : first ≡ replaced (view_in bs) n) where
  pub first-stands : ValidNodeAndRoot bs root first
  first-stands =
      let low = replaced-le (legal bs s.readable.opened) n s.readable.below in
      standing-lower bs root n first s (omega arith)

  pub rising-start : {depth : ℕ} → depth ≡ depth_below_introduction (decode bs).nodes first → Rising bs root n depth first invalid
  unfolding starting_node_of_class_hierarchy topmost_class_node
  rising-start d = record {
    standing = first-stands;
    first-depth = d ∙ ap (depth_below_introduction (decode bs).nodes) e;
    within = omega arith;
    instance = rw e;
    class-node = rw e (none-later (left_from (view_in bs) (replaced (view_in bs) n) (replaced (view_in bs) n)));
  }

module _ {bs : List ℕ} {root n depth m c : ℕ} (w : Rising bs root n depth m c) where
  abbrev Found : Type 0
  Found = HierarchyOf (view_in bs) n (record { instance = m; class_node = c })

  abbrev leaves : ℕ → Bool
  leaves = leaves_class (view_in bs) (replaced (view_in bs) n)

  pub rising-zero : m ≡ 0 → Found
  rising-zero z = record {
    instance = z ∙ ap (follow leaves (class_up (view_in bs))) (sym z) ∙ w.instance;
    «class-node» = ap (λ (k : ℕ). later_or c (left_from (view_in bs) (replaced (view_in bs) n) k)) (sym z) ∙ w.class-node;
  }

  rising-stop : leaves m ≡ true → Found
  rising-stop e = record {
    instance = sym (class-stop (view_in bs) (replaced (view_in bs) n) m e) ∙ w.instance;
    «class-node» = ap (later_or c) (sym (left-stop leaves (class_up (view_in bs)) m e)) ∙ w.class-node;
  }

  pub rising-by-arc : {arc : ℕ} → arc ≡ (view_in bs).arc m → is_class_based_arc arc ≡ false → Found
  rising-by-arc a e = rising-stop (leaves-by-arc (decode bs).nodes (replaced (view_in bs) n) m (rw a at e))

  pub rising-by-depth : (m ≡ 0 → ⊥) → {here : ℕ} → here ≡ depth_below_introduction (decode bs).nodes m → (here ≡ depth → ⊥) → Found
  rising-by-depth some d e =
      let low = w.within in
      rising-stop
      (leaves-by-depth (decode bs).nodes (replaced (view_in bs) n) m (omega arith) (positive m some) (λ q. e (d ∙ q ∙ sym w.first-depth)))

  module _ (some : m ≡ 0 → ⊥) {parent : ℕ} (p : parent ≡ (view_in bs).parent m) where
    pub parent-stands : ValidNodeAndRoot bs root parent
    parent-stands =
        let falls = (legal bs w.standing.readable.opened).parent-lower m (positive m some) w.standing.readable.below in
        standing-lower bs root m parent w.standing (omega arith)

    module _ {next : ℕ} (f : next ≡ replaced (view_in bs) parent) where
      up : next ≡ class_up (view_in bs) m
      up = f ∙ ap (replaced (view_in bs)) p

      pub rising-falls : next < m
      rising-falls = rw up (class-up-lower (legal bs w.standing.readable.opened) m (positive m some) w.standing.readable.below)

      pub rising_step : {arc here : ℕ} → arc ≡ (view_in bs).arc m → is_class_based_arc arc ≡ true
          → here ≡ depth_below_introduction (decode bs).nodes m → here ≡ depth → Rising bs root n depth next m
      rising_step a e d q =
          let graph = legal bs w.standing.readable.opened in
          let below = w.standing.readable.below in
          let falls = rising-falls in
          let low = w.within in
          let on : leaves m ≡ false =
          stays (decode bs).nodes (replaced (view_in bs) n) m (omega arith) (positive m some) (rw a at e) (sym d ∙ q ∙ w.first-depth) in
          record {
            standing = standing-lower bs root m next w.standing (omega arith);
            first-depth = w.first-depth;
            within = omega arith;
            instance = rw up (sym (class-step graph m (positive m some) below (replaced (view_in bs) n) on) ∙ w.instance);
            class-node =
                rw up
                (sym (later-later c m (left_from (view_in bs) (replaced (view_in bs) n) (class_up (view_in bs) m)) (named bs m w.standing.readable))
                ∙ ap (later_or c) (sym (left_step (class-up-lower graph) leaves m (positive m some) below on)) ∙ w.class-node);
          }
