-- Three children of one node of which the first is stronger than the second, the second than the
-- third and the third than the first (a cycle; document 01: a ring) stand in no order, so the graph
-- is refused 9 (`ring-no-order`). So is one of which three nodes are in a cycle by node strength
-- (`nodes-ring-no-order`). Assumes nothing.
use mathlib.Core.Path.{◌≡◌, refl, ap}
use mathlib.Core.Bool.{Bool, true, false}
use mathlib.Core.List.{List, [], ◌∷◌}
use Prim.Native.Nat.{ℕ, ◌+◌, ◌<◌}
use native.Mathlib.Omega.{arith}
use lib.Dec.{eqb}
use borrow.Author.Tests.{eqb-true}
use Rattle.std.specs.declared.cmp.Ordering.TheVariants.{Less}
use Rattle.model.specs.Lists.{bit, count}
use Rattle.model.specs.Graph.{Graph, size, children_of}
use Rattle.model.specs.Strength.{view_of, compare_node_strength}
use Rattle.model.specs.Order.{Sorted, is_less, is_stronger, has_order, ordering}
use Rattle.laws.proofs.ListLaws.{all-at, pairs-imp}
use Rattle.laws.proofs.Trees.{Child, TreeOf}
use Rattle.laws.proofs.StrengthFlips.{nodes-not-both-less}
use Rattle.laws.proofs.WalkLaws.{is-less}
use Rattle.laws.proofs.OrderLaws.{Any, anything, has-order-fails, ordering-ordered, stronger-antisymmetric}

module _ (less : ℕ → ℕ → Bool) (anti : (a b : ℕ) → less a b ≡ true → less b a ≡ true → ⊥) where
  -- nothing in a sorted list is less than the first
  first-least : (x : ℕ) (xs : List ℕ) (a : ℕ) → Sorted less (x ∷ xs) → 0 < count a (x ∷ xs) → less a x ≡ true → ⊥
  first-least x xs a sorted m l = go (eqb a x) refl m
    where
      go : (t : Bool) → eqb a x ≡ t → 0 < bit t + count a xs → ⊥
      go true e m = let itself : less x x ≡ true = rw (eqb-true a x e) at l in anti x x itself itself
      go false e m = anti a x l (all-at (λ y. less x y ≡ true) xs a sorted.0 (omega arith))

  module _ (a b c : ℕ) (ab : less a b ≡ true) (bc : less b c ≡ true) (ca : less c a ≡ true) where
    cycle-unsorted : (xs : List ℕ) → Sorted less xs → 0 < count a xs → 0 < count b xs → 0 < count c xs → ⊥
    cycle-unsorted [] sorted ma mb mc = absurd (omega arith)
    cycle-unsorted (x ∷ xs) sorted ma mb mc = go (eqb a x) refl (eqb b x) refl (eqb c x) refl ma mb mc (cycle-unsorted xs sorted.1)
      where
        go : (i : Bool) → eqb a x ≡ i → (j : Bool) → eqb b x ≡ j → (k : Bool) → eqb c x ≡ k
            → 0 < bit i + count a xs → 0 < bit j + count b xs → 0 < bit k + count c xs
            → (0 < count a xs → 0 < count b xs → 0 < count c xs → ⊥) → ⊥
        go true e j f k h ia ib ic later = first-least x xs c sorted mc (rw (eqb-true a x e) at ca)
        go false e true f k h ia ib ic later = first-least x xs a sorted ma (rw (eqb-true b x f) at ab)
        go false e false f true h ia ib ic later = first-least x xs b sorted mb (rw (eqb-true c x h) at bc)
        go false e false f false h ia ib ic later = later (omega arith) (omega arith) (omega arith)

pub ring-no-order : (g : Graph) → TreeOf g → (v a b c : ℕ) → Child (size g) (view_of g).parent v a
    → Child (size g) (view_of g).parent v b → Child (size g) (view_of g).parent v c
    → is_stronger g a b ≡ true → is_stronger g b c ≡ true → is_stronger g c a ≡ true → has_order g ≡ false
ring-no-order g tree v a b c ha hb hc ab bc ca =
    (has-order-fails g (stronger-antisymmetric g)).1 (
      v,
      omega (arith, tree.lower a ha.0 ha.1),
      λ ys same sorted. cycle-unsorted (is_stronger g) (stronger-antisymmetric g) a b c ab bc ca ys sorted
          (omega (arith, same a, stands a ha)) (omega (arith, same b, stands b hb)) (omega (arith, same c, stands c hc)),
    )
  where
    stands : (x : ℕ) → Child (size g) (view_of g).parent v x → count x (children_of g v) ≡ 1
    stands x h = rw h.2 at (tree.once x h.0 h.1)

-- where there is an order, it has all nodes by their strength
pub nodes-ring-no-order : (g : Graph) → TreeOf g → (a b c : ℕ) → a < size g → b < size g → c < size g
    → compare_node_strength (view_of g) a b ≡ Less → compare_node_strength (view_of g) b c ≡ Less → compare_node_strength (view_of g) c a ≡ Less
    → has_order g ≡ false
nodes-ring-no-order g tree a b c ha hb hc ab bc ca = go (has_order g) refl
  where
    less : ℕ → ℕ → Bool
    less x y = is_less (compare_node_strength (view_of g) x y)

    go : (t : Bool) → has_order g ≡ t → t ≡ false
    go false e = refl
    go true e =
        let all = ordering-ordered g tree e in
        absurd (cycle-unsorted less (λ x y e f. nodes-not-both-less (view_of g) x y (is-less _ e) (is-less _ f)) a b c
        (ap is_less ab) (ap is_less bc) (ap is_less ca) (ordering g).order
        (pairs-imp Any (λ x y. compare_node_strength (view_of g) x y ≡ Less) (λ x y. less x y ≡ true) (λ x y _ _ l. ap is_less l)
        (ordering g).order (anything (ordering g).order) all.stronger)
        (omega (arith, all.once a ha)) (omega (arith, all.once b hb)) (omega (arith, all.once c hc)))
