-- Lists that are a graph's order (document 01, "Order"), shown without sorting.
-- `authored-order`: if each list has the children of its node, and each earlier child is Less than
-- each later, then the graph has an order, and these lists are it.
-- `places-certify`, `certified-order`: for that no comparison need go through origins. It is enough
-- that the lists are in order by document 01's lines with node strength read off places, where the
-- places are those of a walk of the lists (model/specs/Places.antt). For then places compare any
-- two nodes as the lists do (`places-compare`), and the lines of two siblings ask only of nodes
-- that part in lower siblings.
-- `sorted-permute`, `certified-permute`: that a list has the children of its node is seen by
-- counting. Assumes nothing.
use mathlib.Core.Path.{◌≡◌, refl, sym, ap, ◌∙◌}
use mathlib.Core.Logic.{◌⊎◌, inl, inr}
use mathlib.Core.Bool.{Bool, true, false, false≢true}
use mathlib.Core.List.{List, [], ◌∷◌}
use Prim.Native.Nat.{ℕ, zero, suc, ◌+◌, ◌≤◌, ◌<◌}
use native.Mathlib.Omega.{arith}
use lib.Dec.{ltb}
use borrow.Author.Tests.{lt-ltb, ltb-true}
use Rattle.std.specs.declared.cmp.Ordering.{Ordering}
use Rattle.std.specs.declared.cmp.Ordering.TheVariants.{Less}
use Rattle.model.specs.Lists.{All, Pairs, count, SameCounts, pick}
use Rattle.model.specs.Graph.{Graph, size, children_of}
use Rattle.model.specs.Strength.{View, view_of, origin_root_node, sibling_lines, nodes_by, compare_sibling_node_strength, compare_node_strength}
use Rattle.model.specs.Order.{Sorted, is_less, is_sorted, walk, is_stronger, sorted_children, has_order}
use Rattle.model.specs.Places.{by_place, Fits, Certified}
use Rattle.laws.proofs.Views.{LegalView}
use Rattle.laws.proofs.ListLaws.{all-at, all-imp, pairs-imp, pairs-once, pairs-both, pairs-at, all-below}
use Rattle.laws.proofs.SortLaws.{is_sorted_lem, sort-reaches-order}
use Rattle.laws.proofs.Trees.{Child, Tree, TreeOf, all-children, tree-permuted}
use Rattle.laws.proofs.ListsPermute.{total, lists-permute}
use Rattle.laws.proofs.WalkLaws.{Under, self, down, Beside, of-children, walk-once, walk-pairs, walk-ordered}
use Rattle.laws.proofs.SmallerLaws.{smaller-lt}
use Rattle.laws.proofs.StrengthWalks.{origin-below, origin-root-below}
use Rattle.laws.proofs.StrengthCongruence.{sibling-lines-alike, lower-pairs-alike}
use Rattle.laws.proofs.StrengthLaws.{looks-like-itself, compare-siblings-lines}
use Rattle.laws.proofs.StrengthFlips.{flip, flip-fixed, flip-smaller, flip-lines, flip-nodes-by, siblings-flip}
use Rattle.laws.proofs.OrderLaws.{Any, anything, stronger-antisymmetric}

-- ---- Lists in order by strength

-- the graph has an order, and sorting brings each child list into `lists`
pub record OrderIs (g : Graph) (lists : ℕ → List ℕ) : Type 0 where
  pub has-order : has_order g ≡ true
  pub sorted-as : (v : ℕ) → v < size g → sorted_children g v ≡ lists v

-- each of n lists is in order by strength
abbrev pub SortedLists : View → ℕ → (ℕ → List ℕ) → Type 0
SortedLists u n lists = (v : ℕ) → v < n → Sorted (λ a b. is_less (compare_sibling_node_strength u a b)) (lists v)

pub authored-order : (g : Graph) (lists : ℕ → List ℕ) → ((v : ℕ) → v < size g → SameCounts (lists v) (children_of g v))
    → SortedLists (view_of g) (size g) lists → OrderIs g lists
unfolding has_order is_stronger
authored-order g lists same sorted = record {
  has-order = (all-below (λ v. is_sorted (is_stronger g) (sorted_children g v)) (size g)).1
      (λ v h. rw (reached v h) ((is_sorted_lem (is_stronger g) (lists v)).1 (sorted v h)));
  sorted-as = reached;
}
  where
    reached : (v : ℕ) → v < size g → sorted_children g v ≡ lists v
    reached v h =
        sort-reaches-order Any (is_stronger g) (λ a b p q. stronger-antisymmetric g a b) (children_of g v) (lists v) (anything (lists v))
        (λ a. sym (same v h a)) (sorted v h)

-- ---- Branches one after the other

module _ (place stop : ℕ → ℕ) where
  -- c's branch has a place at least
  abbrev pub Rises : ℕ → Type 0
  Rises c = place c < stop c

  fits_whole : (from to : ℕ) (cs : List ℕ) → All Rises cs → Fits place stop from to cs → from ≤ to
  fits_whole from to [] rise fits = fits
  fits_whole from to (c ∷ cs) rise fits = omega (arith, fits_whole (stop c) to cs rise.1 fits.1)

  fits-within : (from to : ℕ) (cs : List ℕ) → All Rises cs → Fits place stop from to cs → All (λ c. (from ≤ place c) × (stop c ≤ to)) cs
  fits-within from to [] rise fits = tt
  fits-within from to (c ∷ cs) rise fits = (
    (fits.0, fits_whole (stop c) to cs rise.1 fits.1),
    all-imp (λ d. (stop c ≤ place d) × (stop d ≤ to)) (λ d. (from ≤ place d) × (stop d ≤ to)) cs (λ d h. (omega arith, h.1))
        (fits-within (stop c) to cs rise.1 fits.1),
  )

  fits-apart : (from to : ℕ) (cs : List ℕ) → All Rises cs → Fits place stop from to cs → Pairs (λ c d. stop c ≤ place d) cs
  fits-apart from to [] rise fits = tt
  fits-apart from to (c ∷ cs) rise fits = (
    all-imp (λ d. (stop c ≤ place d) × (stop d ≤ to)) (λ d. stop c ≤ place d) cs (λ d h. h.0) (fits-within (stop c) to cs rise.1 fits.1),
    fits-apart (stop c) to cs rise.1 fits.1,
  )

  -- so no node stands there twice
  pub fits-once : (from to : ℕ) (xs : List ℕ) → All Rises xs → Fits place stop from to xs → (a : ℕ) → count a xs ≤ 1
  fits-once from to xs rise fits =
      pairs-once xs
      (pairs-imp Rises (λ c d. stop c ≤ place d) (λ c d. c ≡ d → ⊥)
      (λ c d p q apart e. let same : stop d ≤ place d = rw e at apart in omega arith) xs rise (fits-apart from to xs rise fits))

-- ---- Two comparisons that agree on each earlier and each later of a list agree on all of it

module _ (f g : ℕ → ℕ → Ordering) (flip-f : (x y : ℕ) → flip (f x y) ≡ f y x) (flip-g : (x y : ℕ) → flip (g x y) ≡ g y x) where
  comparisons-agree : (xs : List ℕ) → Pairs (λ x y. f x y ≡ g x y) xs → (a b : ℕ) → 0 < count a xs → 0 < count b xs → f a b ≡ g a b
  comparisons-agree xs agree a b i j = go (pairs-at (λ x y. f x y ≡ g x y) xs a b agree i j)
    where
      go : (a ≡ b) ⊎ ((f a b ≡ g a b) ⊎ (f b a ≡ g b a)) → f a b ≡ g a b
      go (inl e) = rw e (flip-fixed (f b b) (sym (flip-f b b)) ∙ sym (flip-fixed (g b b) (sym (flip-g b b))))
      go (inr (inl e)) = e
      go (inr (inr e)) = sym (flip-f b a) ∙ ap flip e ∙ flip-g b a

-- ---- Places in a tree

module _ (n : ℕ) (u : View) (lists : ℕ → List ℕ) (tree : Tree n u.parent lists) (place stop : ℕ → ℕ)
    (branches : (v : ℕ) → v < n → Fits place stop (suc (place v)) (stop v) (lists v)) where
  rises-from : (k c : ℕ) → c < n → n ≤ c + k → Rises place stop c
  rises-from zero c h e = absurd (omega arith)
  rises-from (suc k) c h e =
      fits_whole place stop (suc (place c)) (stop c) (lists c)
      (of-children n u.parent lists tree (Rises place stop) c (λ d i l q. rises-from k d i (omega arith))) (branches c h)

  pub rises : (c : ℕ) → c < n → Rises place stop c
  rises c h = rises-from n c h (omega arith)

  children-rise : (v : ℕ) → All (Rises place stop) (lists v)
  children-rise v = of-children n u.parent lists tree (Rises place stop) v (λ c h l e. rises c h)

  -- a child's branch lies in its parent's, after the parent
  child-within : (x : ℕ) → 0 < x → x < n → (place (u.parent x) < place x) × (stop x ≤ stop (u.parent x))
  child-within x p q =
      let v = u.parent x in
      let lower = tree.lower x p q in
      all-at (λ c. (place v < place c) × (stop c ≤ stop v)) (lists v) x
      (fits-within place stop (suc (place v)) (stop v) (lists v) (children-rise v) (branches v (omega arith))) (omega (arith, tree.once x p q))

  under-within : (v x : ℕ) → x < n → Under u.parent v x → (place v ≤ place x) × (stop x ≤ stop v)
  under-within v x q (self e) = rw e (omega arith, omega arith)
  under-within v x q (down p below) =
      let lower = tree.lower x p q in
      let child = child-within x p q in
      let rest = under-within v (u.parent x) (omega arith) below in
      (omega arith, omega arith)

  above_earlier : (v x : ℕ) → x < n → v < x → Under u.parent v x → place v < place x
  above_earlier v x q l (self e) = absurd (omega arith)
  above_earlier v x q l (down p below) =
      let lower = tree.lower x p q in
      omega (arith, child-within x p q, under-within v (u.parent x) (omega arith) below)

  -- the walk goes by rising places
  pub places-rise : 0 < n → Pairs (λ x y. place x < place y) (walk lists n)
  places-rise some-node = walk-pairs n u.parent lists tree (λ x y. place x < place y) above_earlier beside n 0 some-node
    where
      beside : (v : ℕ) → v < n → Pairs (Beside n u.parent (λ x y. place x < place y)) (lists v)
      beside v h =
          pairs-imp (Rises place stop) (λ c d. stop c ≤ place d) (Beside n u.parent (λ x y. place x < place y))
          (λ c d _ _ apart x y hx hy. omega (arith, rises x hx.0, under-within c x hx.0 hx.1, under-within d y hy.0 hy.1))
          (lists v) (children-rise v) (fits-apart place stop (suc (place v)) (stop v) (lists v) (children-rise v) (branches v h))

  -- so places compare nodes as the lists do, where these are in order
  module _ (siblings : ℕ → ℕ → Ordering) (flips : (x y : ℕ) → flip (siblings x y) ≡ siblings y x)
      (sorted : (v : ℕ) → v < n → Sorted (λ a b. is_less (siblings a b)) (lists v)) where
    pub places-compare : (a b : ℕ) → a < n → b < n → by_place place a b ≡ nodes_by u.parent siblings a b
    places-compare a b p q =
        comparisons-agree (by_place place) (nodes_by u.parent siblings) (λ x y. flip-smaller (place x) (place y)) (flip-nodes-by u siblings flips)
        (walk lists n)
        (pairs-imp Any (λ x y. (place x < place y) × (nodes_by u.parent siblings x y ≡ Less))
        (λ x y. by_place place x y ≡ nodes_by u.parent siblings x y) (λ x y _ _ h. smaller-lt (place x) (place y) h.0 ∙ sym h.1)
        (walk lists n) (anything (walk lists n))
        (pairs-both (λ x y. place x < place y) (λ x y. nodes_by u.parent siblings x y ≡ Less) (walk lists n) (places-rise (omega arith))
        (walk-ordered n u.parent lists tree siblings sorted).stronger))
        a b (omega (arith, walk-once n u.parent lists tree a p)) (omega (arith, walk-once n u.parent lists tree b q))

-- ---- Lists in order have nothing twice

module _ (siblings : ℕ → ℕ → Ordering) (flips : (x y : ℕ) → flip (siblings x y) ≡ siblings y x) where
  sorted-once : (xs : List ℕ) → Sorted (λ a b. is_less (siblings a b)) xs → (a : ℕ) → count a xs ≤ 1
  sorted-once xs sorted =
      pairs-once xs
      (pairs-imp Any (λ a b. is_less (siblings a b) ≡ true) (λ a b. a ≡ b → ⊥)
      (λ a b _ _ less e. false≢true (sym (ap is_less (flip-fixed (siblings b b) (sym (flips b b)))) ∙ (rw e at less))) xs (anything xs) sorted)

lines-flip : (u : View) (place : ℕ → ℕ) (a b : ℕ) → flip (sibling_lines u (by_place place) a b) ≡ sibling_lines u (by_place place) b a
lines-flip u place = flip-lines u (by_place place) (λ x y. flip-smaller (place x) (place y))

-- so they have the children of a tree if they have nothing else and are together as long
module _ (n : ℕ) (u : View) (children : ℕ → List ℕ) (tree : Tree n u.parent children) (lists : ℕ → List ℕ)
    (own : (v : ℕ) → v < n → All (Child n u.parent v) (lists v)) (whole : suc (total lists n) ≡ n) where
  pub sorted-permute : SortedLists u n lists → (v : ℕ) → v < n → SameCounts (lists v) (children v)
  sorted-permute sorted =
      lists-permute n u.parent children tree lists own
      (λ v a h. sorted-once (compare_sibling_node_strength u) (λ x y. sym (siblings-flip u x y)) (lists v) (sorted v h) a) whole

  pub certified-permute : (place stop : ℕ → ℕ) → Certified u n lists place stop → (v : ℕ) → v < n → SameCounts (lists v) (children v)
  certified-permute place stop certified =
      lists-permute n u.parent children tree lists own
      (λ v a h. sorted-once (sibling_lines u (by_place place)) (lines-flip u place) (lists v) (certified.sorted v h) a) whole

-- ---- Places certify

module _ (n : ℕ) (u : View) (lists : ℕ → List ℕ) (place stop : ℕ → ℕ) (legal : LegalView n u) (tree : Tree n u.parent lists)
    (certified : Certified u n lists place stop) where
  -- the lines, with node strength by places
  abbrev by_lines : ℕ → ℕ → Ordering
  by_lines a b = sibling_lines u (by_place place) a b

  compared : (a b : ℕ) → a < n → b < n → by_place place a b ≡ nodes_by u.parent by_lines a b
  compared =
      places-compare n u lists tree place stop certified.branches by_lines (lines-flip u place) certified.sorted

  agrees-below : (k a b : ℕ) → a + b < k → 0 < a → 0 < b → a < n → b < n → by_lines a b ≡ compare_sibling_node_strength u a b
  unfolding compare_node_strength
  agrees-below zero a b h ha hb p q = absurd (omega arith)
  agrees-below (suc k) a b h ha hb p q =
      let itself = looks-like-itself n u in
      sibling-lines-alike legal itself a b ha hb p q refl refl (nodes_by u.parent by_lines) (by_place place)
      (compared (u.origin a) (u.origin b) (origin-below legal a ha p) (origin-below legal b hb q))
      (λ _. compared (origin_root_node u a) (origin_root_node u b) (origin-root-below legal a p) (origin-root-below legal b q))
      ∙ lower-pairs-alike legal itself a b ha hb p q refl refl (compare_sibling_node_strength u) by_lines
      (λ c d hc hd i j _ _ l _. agrees-below k c d (omega arith) hc hd i j)
      ∙ sym (compare-siblings-lines legal a b ha hb p q)

  pub places-certify : SortedLists u n lists
  places-certify v h =
      pairs-imp (Child n u.parent v) (λ a b. is_less (by_lines a b) ≡ true) (λ a b. is_less (compare_sibling_node_strength u a b) ≡ true)
      (λ a b i j less. rw (agrees-below (suc (a + b)) a b (omega arith) i.0 j.0 i.1 j.1) at less)
      (lists v) (all-children n u.parent lists tree v) (certified.sorted v h)

-- a graph's child lists, each permuted
module _ (g : Graph) (lists : ℕ → List ℕ) (tree : TreeOf g) (same : (v : ℕ) → v < size g → SameCounts (lists v) (children_of g v)) where
  -- beyond its nodes the graph's own lists
  abbrev within : ℕ → List ℕ
  within v = pick (ltb v (size g)) (lists v) (children_of g v)

  within-below : (v : ℕ) → v < size g → within v ≡ lists v
  within-below v h = rw (lt-ltb v (size g) h)

  tree-within : Tree (size g) (view_of g).parent within
  tree-within = tree-permuted (size g) (view_of g).parent (children_of g) tree within (λ v. go v (ltb v (size g)) refl)
    where
      go : (v : ℕ) (t : Bool) → ltb v (size g) ≡ t → SameCounts (pick t (lists v) (children_of g v)) (children_of g v)
      go v true e = same v (ltb-true v (size g) e)
      go v false e = λ a. refl

  pub certified-order : LegalView (size g) (view_of g) → (place stop : ℕ → ℕ) → Certified (view_of g) (size g) lists place stop
      → OrderIs g lists
  certified-order legal place stop certified =
      authored-order g lists same
      (λ v h. rw (within-below v h) at (places-certify (size g) (view_of g) within place stop legal tree-within certified-within v h))
    where
      certified-within : Certified (view_of g) (size g) within place stop
      certified-within = record {
        branches = λ v h. rw (within-below v h) (certified.branches v h);
        sorted = λ v h. rw (within-below v h) (certified.sorted v h);
      }
