-- What the laws of erasing rest on. `new_number kept` grows on the kept, reaches every number below
-- how many are kept, and is never above the old number; and of lists, what is kept of them,
-- renumbered. The laws of deepening and adding use the last two sections.
-- Assumes nothing.
use mathlib.Core.Path.{◌≡◌, refl, sym, ap, ap₂, ◌∙◌, subst}
use mathlib.Core.Bool.{Bool, true, false, not, ◌||◌, ◌&&◌, true≢false}
use mathlib.Core.List.{List, [], ◌∷◌, ◌++◌, map, map-append}
use Prim.Native.Nat.{ℕ, zero, suc, ◌+◌, ◌-◌, ◌≤◌, ◌<◌}
use native.Mathlib.Nat.{zero-add, add-zero, add-suc}
use native.Mathlib.Numerals.{one-add}
use native.Mathlib.Omega.{arith}
use lib.Dec.{eqb, ltb}
use lib.ListN.{length, get_or}
use borrow.Author.Tests.{eqb-true, eqb-false, eq-eqb, ne_eqb, ltb-true, ltb-false, lt-ltb, le-ltb}
use Rattle.model.specs.Lists.{All, bit, count, pick, filter, any_below}
use Rattle.model.specs.Order.{concat_map}
use Rattle.model.specs.Erasing.{new_number}
use Rattle.laws.proofs.ListLaws.{bit-eq, bit-ne, filter-append}

-- ---- The new numbers

bit-small : (b : Bool) → bit b ≤ 1
bit-small true = omega arith
bit-small false = omega arith

equal-if-neither-less : (a b : ℕ) → eqb a b ≡ not (ltb a b || ltb b a)
equal-if-neither-less a b = go (ltb a b) refl (ltb b a) refl
  where
    go : (p : Bool) → ltb a b ≡ p → (q : Bool) → ltb b a ≡ q → eqb a b ≡ not (p || q)
    go true e q f = ne_eqb a b (omega (arith, ltb-true a b e))
    go false e true f = ne_eqb a b (omega (arith, ltb-true b a f))
    go false e false f = eq-eqb a b (omega (arith, ltb-false a b e, ltb-false b a f))

module _ (kept : ℕ → Bool) where
  pub new-number-no-larger : (n : ℕ) → new_number kept n ≤ n
  new-number-no-larger zero = omega arith
  new-number-no-larger (suc n) = omega (arith, new-number-no-larger n, bit-small (kept n))

  never-falls : (d i : ℕ) → new_number kept i ≤ new_number kept (i + d)
  never-falls zero i = rw (add-zero i) (omega arith)
  never-falls (suc d) i = rw (add-suc i d) (omega (arith, never-falls d i))

  pub new-number-grows : (i j : ℕ) → kept i ≡ true → i < j → new_number kept i < new_number kept j
  new-number-grows i j k l =
      let e : suc i + (j - suc i) ≡ j = omega arith in
      omega (arith, ap bit k, rw e at (never-falls (j - suc i) (suc i)))

  pub new-number-positive : (n : ℕ) → 0 < new_number kept n → 0 < n
  new-number-positive zero h = absurd (omega arith)
  new-number-positive (suc n) h = omega arith

  -- the new numbers of two that are kept compare as the old
  pub new-number-ltb : (i j : ℕ) → kept i ≡ true → kept j ≡ true → ltb (new_number kept i) (new_number kept j) ≡ ltb i j
  new-number-ltb i j k l = go (ltb i j) refl (ltb j i) refl
    where
      go : (b : Bool) → ltb i j ≡ b → (c : Bool) → ltb j i ≡ c → ltb (new_number kept i) (new_number kept j) ≡ b
      go true e c f = lt-ltb (new_number kept i) (new_number kept j) (new-number-grows i j k (ltb-true i j e))
      go false e true f = le-ltb (new_number kept i) (new_number kept j) (omega (arith, new-number-grows j i l (ltb-true j i f)))
      go false e false f =
          let same : i ≡ j = omega (arith, ltb-false i j e, ltb-false j i f) in
          le-ltb (new_number kept i) (new_number kept j) (omega (arith, ap (new_number kept) same))

  pub new-number-eqb : (i j : ℕ) → kept i ≡ true → kept j ≡ true → eqb (new_number kept i) (new_number kept j) ≡ eqb i j
  new-number-eqb i j k l =
      equal-if-neither-less (new_number kept i) (new_number kept j)
      ∙ (rw (new-number-ltb i j k l, new-number-ltb j i l k) (sym (equal-if-neither-less i j)))

  -- each number below how many of n are kept is a new one
  pub new-number-onto : (n j : ℕ) → j < new_number kept n → (i : ℕ) × (i < n) × (kept i ≡ true) × (new_number kept i ≡ j)
  new-number-onto zero j h = absurd (omega arith)
  new-number-onto (suc n) j h = go (kept n) refl (eqb (new_number kept n) j) refl (new-number-onto n j) h
    where
      Found : ℕ → Type 0
      Found m = (i : ℕ) × (i < m) × (kept i ≡ true) × (new_number kept i ≡ j)

      go : (b : Bool) → kept n ≡ b → (c : Bool) → eqb (new_number kept n) j ≡ c → (j < new_number kept n → Found n)
          → j < bit b + new_number kept n → Found (suc n)
      go true k true e ih h = (n, omega arith, k, eqb-true (new_number kept n) j e)
      go true k false e ih h = let r = ih (omega (arith, eqb-false (new_number kept n) j e)) in (r.0, omega arith, r.2, r.3)
      go false k c e ih h = let r = ih (omega arith) in (r.0, omega arith, r.2, r.3)

  -- what holds at the new number of each that is kept holds at each number below how many are
  pub at-new-numbers : (P : ℕ → Type 0) (n : ℕ) → ((i : ℕ) → i < n → kept i ≡ true → P (new_number kept i))
      → (j : ℕ) → j < new_number kept n → P j
  at-new-numbers P n h j l = let r = new-number-onto n j l in subst P r.3 (h r.0 r.1 r.2)

-- ---- Some number below n

-- a test that what goes fails is passed by one of the kept if by any
pub any-below-kept : (kept p q : ℕ → Bool) (n : ℕ) → ((i : ℕ) → i < n → kept i ≡ true → q (new_number kept i) ≡ p i)
    → ((i : ℕ) → i < n → kept i ≡ false → p i ≡ false) → any_below q (new_number kept n) ≡ any_below p n
any-below-kept kept p q zero h g = refl
any-below-kept kept p q (suc n) h g = go (kept n) refl (any-below-kept kept p q n (λ i l. h i (omega arith)) (λ i l. g i (omega arith)))
  where
    go : (b : Bool) → kept n ≡ b → any_below q (new_number kept n) ≡ any_below p n → any_below q (bit b + new_number kept n) ≡ (p n || any_below p n)
    go true k ih = rw (one-add (new_number kept n)) (ap₂ (λ (x y : Bool). x || y) (h n (omega arith) k) ih)
    go false k ih = rw (zero-add (new_number kept n), g n (omega arith) k) ih

-- ---- Lists under the new numbers

module _ (kept : ℕ → Bool) where
  -- a number that is kept stands in the new list as often as in the old
  pub count_kept : (c : ℕ) (xs : List ℕ) → kept c ≡ true → count (new_number kept c) (map (new_number kept) (filter kept xs)) ≡ count c xs
  count_kept c [] k = refl
  count_kept c (x ∷ xs) k = go (kept x) refl (count_kept c xs k)
    where
      go : (b : Bool) → kept x ≡ b → count (new_number kept c) (map (new_number kept) (filter kept xs)) ≡ count c xs
          → count (new_number kept c) (map (new_number kept) (pick b (x ∷ filter kept xs) (filter kept xs))) ≡ bit (eqb c x) + count c xs
      go true e ih = rw (new-number-eqb kept c x k e, ih)
      go false e ih = omega (arith, bit-ne c x (λ q. true≢false (sym k ∙ (rw q e))))

  -- what stands in the new list is the new number of something kept
  pub kept-counted : (j : ℕ) (xs : List ℕ) → 0 < count j (map (new_number kept) (filter kept xs))
      → (c : ℕ) × (kept c ≡ true) × (new_number kept c ≡ j) × (0 < count c xs)
  kept-counted j [] h = absurd (omega arith)
  kept-counted j (x ∷ xs) h = go (kept x) refl (eqb j (new_number kept x)) refl (kept-counted j xs) h
    where
      Found : List ℕ → Type 0
      Found ys = (c : ℕ) × (kept c ≡ true) × (new_number kept c ≡ j) × (0 < count c ys)

      further : Found xs → Found (x ∷ xs)
      further r = (r.0, r.1, r.2, omega arith)

      go : (b : Bool) → kept x ≡ b → (d : Bool) → eqb j (new_number kept x) ≡ d → (0 < count j (map (new_number kept) (filter kept xs)) → Found xs)
          → 0 < count j (map (new_number kept) (pick b (x ∷ filter kept xs) (filter kept xs))) → Found (x ∷ xs)
      go true k true e ih h = (x, k, sym (eqb-true j (new_number kept x) e), omega (arith, bit-eq x x refl))
      go true k false e ih h = further (ih (omega (arith, ap bit e)))
      go false k d e ih h = further (ih h)

  -- Lists that are joined, one for each number: with nothing kept in any, nothing is kept; and the
  -- lists of the kept, renumbered, where those of the others lose all.
  pub concat-goes : (f : ℕ → List ℕ) (cs : List ℕ) → All (λ c. filter kept (f c) ≡ []) cs → filter kept (concat_map f cs) ≡ []
  concat-goes f [] h = refl
  concat-goes f (c ∷ cs) h = filter-append kept (f c) (concat_map f cs) ∙ ap₂ ◌++◌ h.0 (concat-goes f cs h.1)

  pub concat-kept : (f f_erased : ℕ → List ℕ) (cs : List ℕ)
      → All (λ c. (kept c ≡ true → f_erased (new_number kept c) ≡ map (new_number kept) (filter kept (f c)))
      × (kept c ≡ false → filter kept (f c) ≡ [])) cs
      → concat_map f_erased (map (new_number kept) (filter kept cs)) ≡ map (new_number kept) (filter kept (concat_map f cs))
  concat-kept f f_erased [] h = refl
  concat-kept f f_erased (c ∷ cs) h =
      rw (
        filter-append kept (f c) (concat_map f cs),
        map-append (new_number kept) (filter kept (f c)) (filter kept (concat_map f cs)),
        ← (concat-kept f f_erased cs h.1),
      )
      (go (kept c) refl)
    where
      go : (b : Bool) → kept c ≡ b → concat_map f_erased (map (new_number kept) (pick b (c ∷ filter kept cs) (filter kept cs)))
          ≡ map (new_number kept) (filter kept (f c)) ++ concat_map f_erased (map (new_number kept) (filter kept cs))
      go true e = rw (h.0.0 e)
      go false e = rw (h.0.1 e)

-- ---- Lists by place

pub map-place {ℓ κ} : {A : Type ℓ} {B : Type κ} (f : A → B) (xs : List A) (i : ℕ) (d : A) (e : B) → i < length xs
    → get_or (map f xs) i e ≡ f (get_or xs i d)
map-place f [] i d e h = absurd (omega arith)
map-place f (x ∷ xs) zero d e h = refl
map-place f (x ∷ xs) (suc i) d e h = map-place f xs i d e (omega arith)

-- ---- Tests

-- what stands behind two tests counts only where both pass
pub behind-tests : (p q s t : Bool) → (p ≡ true → q ≡ true → s ≡ t) → (p && (q && s)) ≡ (p && (q && t))
behind-tests true true s t h = h refl refl
behind-tests true false s t h = refl
behind-tests false q s t h = refl
