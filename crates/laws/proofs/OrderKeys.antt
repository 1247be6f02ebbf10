-- Siblings in order by keys: rank, larger depth, strength of the origins, sibling number and node
-- number (`key_lines` of specs/Places.antt).
-- Children of one node of which each has no HAS_SPECIALIZES or is authored compare so
-- (`key-lines-siblings`), authored ones whatever the strength of nodes (`compare-authored`). By
-- places these lines are transitive, so such a list is in order where each child is before the next
-- (`neighbours-sorted`, `authored-sorted`). Assumes nothing.
use mathlib.Core.Path.{◌≡◌, refl, sym, ap, ◌∙◌}
use mathlib.Core.Bool.{Bool, true, false, not, ◌||◌, ◌&&◌, cond}
use mathlib.Core.List.{List, [], ◌∷◌}
use Prim.Native.Nat.{ℕ, ◌<◌}
use native.Mathlib.Omega.{arith}
use native.Mathlib.Decide.{dec_lt}
use lib.Dec.{eqb}
use borrow.Author.Tests.{eqb-true, eqb-false, eq-eqb, ne_eqb}
use Rattle.std.specs.declared.cmp.Ordering.{Ordering}
use Rattle.std.specs.declared.cmp.Ordering.TheVariants.{Less, Equal, Greater}
use Rattle.model.specs.Lists.{All, Pairs}
use Rattle.model.specs.Strength.{View, first, smaller, having, follow, is_authored, is_propagated_specializes, origin_root_node, outward, is_nested_under, origins_are_nested, same_origin_lines, origin_lines, depth_line, specializes_lines, plain_lines, sibling_lines, compare_sibling_node_strength, compare_node_strength}
use Rattle.model.specs.Order.{is_less, Sorted}
use Rattle.model.specs.Places.{by_place, key_lines}
use Rattle.laws.proofs.ListLaws.{pairs-imp, all-imp}
use Rattle.laws.proofs.Views.{LegalView}
use Rattle.laws.proofs.Trees.{Child}
use Rattle.laws.proofs.FollowLaws.{follow-le}
use Rattle.laws.proofs.SmallerLaws.{smaller-lt, smaller-eq, smaller-gt}
use Rattle.laws.proofs.StrengthWalks.{cond_both, outward-lower, nested-step, origin-root-authored}
use Rattle.laws.proofs.StrengthLaws.{compare-siblings-lines, compare_same}

-- ---- Children that keys compare

-- a child of v without HAS_SPECIALIZES, or authored
abbrev pub is_keyed : View → ℕ → Bool
is_keyed u c = not (u.special c) || is_authored u c

abbrev pub Keyed : ℕ → View → ℕ → ℕ → Type 0
Keyed n u v c = Child n u.parent v c × (is_keyed u c ≡ true)

-- an authored child of v
abbrev pub Authored : ℕ → View → ℕ → ℕ → Type 0
Authored n u v c = Child n u.parent v c × (is_authored u c ≡ true)

module _ {n : ℕ} {u : View} (legal : LegalView n u) {v : ℕ} where
  authored-origin : (c : ℕ) → Authored n u v c → u.origin c ≡ v
  authored-origin c h = eqb-true (u.origin c) (u.parent c) h.1 ∙ h.0.2

  authored-keyed : (c : ℕ) → Authored n u v c → Keyed n u v c
  authored-keyed c h = (h.0, go (u.special c))
    where
      go : (s : Bool) → not s || is_authored u c ≡ true
      go true = h.1
      go false = refl

  -- the way outward from an authored child leads to its parent, and never up again
  pub never-nested : (a b : ℕ) → (a ≡ b → ⊥) → Authored n u v a → Authored n u v b → is_nested_under u a b ≡ false
  unfolding is_nested_under outward
  never-nested a b differ ha hb =
      nested-step legal a ha.0.0 ha.0.1 b differ
      ∙ rw (cond_both (λ c. c ≡ v) (is_propagated_specializes u a) (authored-origin a ha) ha.0.2) lower
    where
      lower : eqb (follow (λ c. eqb c b) (outward u) v) b ≡ false
      lower =
          let under = legal.parent-lower b hb.0.0 hb.0.1 in
          let p = hb.0.2 in
          let fits = hb.0.1 in
          let low = follow-le (outward-lower legal) (λ c. eqb c b) v (omega arith) in
          ne_eqb (follow (λ c. eqb c b) (outward u) v) b (λ e. omega arith)

  -- R of two such children that are HAS_SPECIALIZES and have two depths
  pub keyed-not-nested : (a b : ℕ) → Keyed n u v a → Keyed n u v b → u.special a ≡ true → u.special b ≡ true → (u.depth a ≡ u.depth b → ⊥)
      → origins_are_nested u (origin_root_node u a) (origin_root_node u b) ≡ false
  unfolding origins_are_nested
  keyed-not-nested a b ha hb s t differ =
      let x : Authored n u v a = (ha.0, rw s at ha.1) in
      let y : Authored n u v b = (hb.0, rw t at hb.1) in
      let other : a ≡ b → ⊥ = λ e. differ (ap u.depth e) in
      rw (origin-root-authored u a x.1, origin-root-authored u b y.1)
      (rw (never-nested a b other x y, never-nested b a (λ e. other (sym e)) y x))

  module _ (a b : ℕ) (ha : Authored n u v a) (hb : Authored n u v b) where
    depth-authored : depth_line u a b ≡ smaller (u.depth b) (u.depth a)
    unfolding depth_line origins_are_nested
    depth-authored =
        rw (origin-root-authored u a ha.1, origin-root-authored u b hb.1) (go (eqb a b) refl)
      where
        either : (t : Bool) (o : Ordering) → o ≡ Equal → cond t Equal o ≡ o
        either true o e = sym e
        either false o e = refl

        go : (t : Bool) → eqb a b ≡ t
            → cond (is_nested_under u a b || is_nested_under u b a) Equal (smaller (u.depth b) (u.depth a)) ≡ smaller (u.depth b) (u.depth a)
        go true e =
            either (is_nested_under u a b || is_nested_under u b a) (smaller (u.depth b) (u.depth a))
            (smaller-eq (u.depth b) (u.depth a) (ap u.depth (sym (eqb-true a b e))))
        go false e =
            let differ = eqb-false a b e in
            rw (never-nested a b differ ha hb, never-nested b a (λ q. differ (sym q)) hb ha)

    specializes-authored : (nodes : ℕ → ℕ → Ordering) → nodes v v ≡ Equal → specializes_lines u nodes a b ≡ plain_lines u nodes a b
    unfolding specializes_lines origin_lines same_origin_lines plain_lines
    specializes-authored nodes same =
        rw (depth-authored, eq-eqb (u.origin a) (u.origin b) (authored-origin a ha ∙ sym (authored-origin b hb)), ha.1)
        (rw (authored-origin a ha, authored-origin b hb, same))

  -- document 01's lines are the keys' lines, by any strength of nodes in which v is Equal to itself
  pub key-lines-siblings : (nodes : ℕ → ℕ → Ordering) → nodes v v ≡ Equal → (a b : ℕ) → Keyed n u v a → Keyed n u v b
      → sibling_lines u nodes a b ≡ key_lines u nodes a b
  unfolding sibling_lines
  key-lines-siblings nodes same a b ha hb =
      ap (first (smaller (u.rank a) (u.rank b))) (go (u.special a) (u.special b) ha.1 hb.1)
    where
      go : (s t : Bool) → not s || is_authored u a ≡ true → not t || is_authored u b ≡ true
          → cond (s && t) (specializes_lines u nodes a b) (plain_lines u nodes a b) ≡ plain_lines u nodes a b
      go true true e f = specializes-authored a b (ha.0, e) (hb.0, f) nodes same
      go true false e f = refl
      go false t e f = refl

  -- authored ones ask no strength of nodes
  pub compare-authored : (nodes : ℕ → ℕ → Ordering) → nodes v v ≡ Equal → (a b : ℕ) → Authored n u v a → Authored n u v b
      → compare_sibling_node_strength u a b ≡ key_lines u nodes a b
  unfolding plain_lines
  compare-authored nodes same a b ha hb =
      compare-siblings-lines legal a b ha.0.0 hb.0.0 ha.0.1 hb.0.1
      ∙ key-lines-siblings (compare_node_strength u) (compare_same u v) a b (authored-keyed a ha) (authored-keyed b hb)
      ∙ rw (authored-origin a ha, authored-origin b hb, compare_same u v, same)

-- ---- Keys are transitive

abbrev pub NotGreater : Ordering → Type 0
NotGreater Less = Unit {0}
NotGreater Equal = Unit {0}
NotGreater Greater = ⊥

-- one line of keys, or a list of them: from a over b to c it answers the first answer that differs
abbrev pub Level : (ℕ → ℕ → Ordering) → Type 0
Level s = (a b c : ℕ) → NotGreater (s a b) → NotGreater (s b c) → s a c ≡ first (s a b) (s b c)

smaller-level : (x y z : ℕ) → NotGreater (smaller x y) → NotGreater (smaller y z) → smaller x z ≡ first (smaller x y) (smaller y z)
smaller-level x y z p q = go (dec_lt x y) (dec_lt y z)
  where
    up : (x y : ℕ) → NotGreater (smaller x y) → (x < y → ⊥) → x ≡ y
    up x y p l = reach (dec_lt y x)
      where
        reach : Dec (y < x) → x ≡ y
        reach (yes m) = absurd (rw (smaller-gt x y m) at p)
        reach (no m) = omega arith

    go : Dec (x < y) → Dec (y < z) → smaller x z ≡ first (smaller x y) (smaller y z)
    go (yes l) (yes m) = rw (smaller-lt x y l, smaller-lt x z (omega arith))
    go (yes l) (no m) = let e = up y z q m in rw (smaller-lt x y l, smaller-lt x z (omega arith))
    go (no l) d = rw (up x y p l, smaller-eq y y refl)

first-swaps : (o p : Ordering) → NotGreater o → NotGreater p → first o p ≡ first p o
first-swaps Less Less h k = refl
first-swaps Less Equal h k = refl
first-swaps Less Greater h k = absurd k
first-swaps Equal Less h k = refl
first-swaps Equal Equal h k = refl
first-swaps Equal Greater h k = refl
first-swaps Greater p h k = absurd h

pub level-smaller : (key : ℕ → ℕ) → Level (λ a b. smaller (key a) (key b))
level-smaller key a b c = smaller-level (key a) (key b) (key c)

pub level-larger : (key : ℕ → ℕ) → Level (λ a b. smaller (key b) (key a))
level-larger key a b c p q = smaller-level (key c) (key b) (key a) q p ∙ first-swaps (smaller (key c) (key b)) (smaller (key b) (key a)) q p

pub level-having : (key : ℕ → Bool) → Level (λ a b. having (key a) (key b))
level-having key a b c = go (key a) (key b) (key c)
  where
    go : (x y z : Bool) → NotGreater (having x y) → NotGreater (having y z) → having x z ≡ first (having x y) (having y z)
    go true true z p q = refl
    go true false true p q = absurd q
    go true false false p q = refl
    go false true z p q = absurd p
    go false false z p q = refl

pub level-first : (s r : ℕ → ℕ → Ordering) → Level s → Level r → Level (λ a b. first (s a b) (r a b))
level-first s r hs hr a b c = go (s a b) (s b c) (hs a b c)
  where
    ends : (o : Ordering) → NotGreater o → Less ≡ first o Less
    ends Less h = refl
    ends Equal h = refl
    ends Greater h = absurd h

    go : (o p : Ordering) → (NotGreater o → NotGreater p → s a c ≡ first o p) → NotGreater (first o (r a b)) → NotGreater (first p (r b c))
        → first (s a c) (r a c) ≡ first (first o (r a b)) (first p (r b c))
    go Less Less h i j = rw (h i j)
    go Less Equal h i j = rw (h i tt)
    go Less Greater h i j = absurd j
    go Equal Less h i j = rw (h tt j) (ends (r a b) i)
    go Equal Equal h i j = rw (h tt tt) (hr a b c i j)
    go Equal Greater h i j = absurd j
    go Greater p h i j = absurd i

module _ (u : View) (place : ℕ → ℕ) where
  -- a before b by its key
  abbrev pub KeyLess : ℕ → ℕ → Type 0
  KeyLess a b = key_lines u (by_place place) a b ≡ Less

  key-level : Level (key_lines u (by_place place))
  unfolding plain_lines
  key-level =
      level-first _ _ (level-smaller u.rank)
      (level-first _ _ (level-larger u.depth)
      (level-first _ _ (level-smaller (λ a. place (u.origin a)))
      (level-first _ _ (level-smaller u.sibling) (level-smaller (λ a. a)))))

  pub key-lines-trans : (a b c : ℕ) → KeyLess a b → KeyLess b c → KeyLess a c
  key-lines-trans a b c p q = key-level a b c (rw p tt) (rw q tt) ∙ rw p

-- ---- Each before the next

-- x stands in R to the first of a list
abbrev pub First : (ℕ → ℕ → Type 0) → ℕ → List ℕ → Type 0
First R x [] = Unit {0}
First R x (y ∷ ys) = R x y

-- each element stands in R to the next
abbrev pub Neighbours : (ℕ → ℕ → Type 0) → List ℕ → Type 0
Neighbours R [] = Unit {0}
Neighbours R (x ∷ xs) = First R x xs × Neighbours R xs

pub neighbours-pairs : (R : ℕ → ℕ → Type 0) → ((a b c : ℕ) → R a b → R b c → R a c) → (xs : List ℕ) → Neighbours R xs → Pairs R xs
neighbours-pairs R trans [] h = tt
neighbours-pairs R trans (x ∷ xs) h = let later = neighbours-pairs R trans xs h.1 in (reach xs h.0 later, later)
  where
    reach : (ys : List ℕ) → First R x ys → Pairs R ys → All (R x) ys
    reach [] near far = tt
    reach (y ∷ ys) near far = (near, all-imp (R y) (R x) ys (λ z. trans x y z near) far.0)

module _ {n : ℕ} {u : View} (legal : LegalView n u) (v : ℕ) (place : ℕ → ℕ) (xs : List ℕ) where
  -- children of v in order by document 01's lines, the strength of nodes being that of places
  pub neighbours-sorted : All (Keyed n u v) xs → Neighbours (KeyLess u place) xs → Sorted (λ a b. is_less (sibling_lines u (by_place place) a b)) xs
  neighbours-sorted keyed h =
      pairs-imp (Keyed n u v) (KeyLess u place) (λ a b. is_less (sibling_lines u (by_place place) a b) ≡ true)
      (λ a b ha hb less. rw (key-lines-siblings legal (by_place place) (smaller-eq (place v) (place v) refl) a b ha hb, less)) xs keyed
      (neighbours-pairs (KeyLess u place) (key-lines-trans u place) xs h)

  -- authored children of v in order by strength
  pub authored-sorted : All (Authored n u v) xs → Neighbours (KeyLess u place) xs → Sorted (λ a b. is_less (compare_sibling_node_strength u a b)) xs
  authored-sorted authored h =
      pairs-imp (Authored n u v) (KeyLess u place) (λ a b. is_less (compare_sibling_node_strength u a b) ≡ true)
      (λ a b ha hb less. rw (compare-authored legal (by_place place) (smaller-eq (place v) (place v) refl) a b ha hb, less)) xs authored
      (neighbours-pairs (KeyLess u place) (key-lines-trans u place) xs h)
