-- What the other files cite of the lists of specs/Lists.antt: `All` and `Pairs` through `++`,
-- `map`, `filter` and `concat_map`; `count`, and what permutations share; `every`, `all_below` and
-- `any_below` as "for all" and "for some"; and where `keep_at` puts an element. Assumes nothing.
use mathlib.Core.Path.{◌≡◌, refl, sym, ap, ap₂, ◌∙◌}
use mathlib.Core.Logic.{◌⊎◌, inl, inr, ◌↔◌}
use mathlib.Core.Bool.{Bool, true, false, ◌||◌, ◌&&◌, cond, and-eq-true_iff, or-true, true≢false, false≢true}
use mathlib.Core.List.{List, [], ◌∷◌, ◌++◌, map}
use Prim.Native.Nat.{ℕ, zero, suc, ◌+◌, ◌≤◌, ◌<◌}
use native.Mathlib.Nat.{zero-add, eq-or-lt_of_le}
use native.Mathlib.Numerals.{one-add}
use native.Mathlib.Omega.{arith}
use lib.Dec.{eqb}
use lib.ListN.{length, get_or}
use borrow.Author.Tests.{eqb-true, eq-eqb, ne_eqb}
use Rattle.model.specs.Lists.{All, Pairs, bit, count, SameCounts, pick, filter, every, all_below, any_below, keep_at}
use Rattle.model.specs.Order.{concat_map}
use Rattle.model.specs.Erasing.{new_number}

-- ---- A number in a list

pub bit-eq : (a b : ℕ) → a ≡ b → bit (eqb a b) ≡ 1
bit-eq a b e = ap bit (eq-eqb a b e)

pub bit-ne : (a b : ℕ) → (a ≡ b → ⊥) → bit (eqb a b) ≡ 0
bit-ne a b e = ap bit (ne_eqb a b e)

pub count-append : (a : ℕ) (xs ys : List ℕ) → count a (xs ++ ys) ≡ count a xs + count a ys
count-append a [] ys = omega arith
count-append a (x ∷ xs) ys = omega (arith, count-append a xs ys)

pub count_none : (a : ℕ) (xs : List ℕ) → All (λ x. a ≡ x → ⊥) xs → count a xs ≡ 0
count_none a [] h = refl
count_none a (x ∷ xs) h = omega (arith, bit-ne a x h.0, count_none a xs h.1)

-- what holds of all holds of each that stands there
pub all-at : (P : ℕ → Type 0) (xs : List ℕ) (a : ℕ) → All P xs → 0 < count a xs → P a
all-at P [] a h m = absurd (omega arith)
all-at P (x ∷ xs) a h m = go (eqb a x) refl m (all-at P xs a h.1)
  where
    go : (b : Bool) → eqb a x ≡ b → 0 < bit b + count a xs → (0 < count a xs → P a) → P a
    go true e m later = rw (eqb-true a x e) h.0
    go false e m later = later (omega arith)

pub all_of : (P : ℕ → Type 0) (xs : List ℕ) → ((a : ℕ) → 0 < count a xs → P a) → All P xs
all_of P [] h = tt
all_of P (x ∷ xs) h = (h x (omega (arith, bit-eq x x refl)), all_of P xs (λ a m. h a (omega arith)))

pub all_same : (P : ℕ → Type 0) (xs ys : List ℕ) → SameCounts xs ys → All P xs → All P ys
all_same P xs ys same h = all_of P ys (λ a m. all-at P xs a h (omega (arith, same a)))

pub empty-same : (ys : List ℕ) → SameCounts [] ys → [] ≡ ys
empty-same [] same = refl
empty-same (y ∷ ys) same = absurd (omega (arith, same y, bit-eq y y refl))

-- ---- All and Pairs

pub all-imp : (P Q : ℕ → Type 0) (xs : List ℕ) → ((x : ℕ) → P x → Q x) → All P xs → All Q xs
all-imp P Q [] f h = tt
all-imp P Q (x ∷ xs) f h = (f x h.0, all-imp P Q xs f h.1)

pub all-never : (xs : List ℕ) → All (λ x. ⊥) xs → xs ≡ []
all-never [] h = refl
all-never (x ∷ xs) h = absurd h.0

pub all_append : (P : ℕ → Type 0) (xs ys : List ℕ) → All P xs → All P ys → All P (xs ++ ys)
all_append P [] ys h k = k
all_append P (x ∷ xs) ys h k = (h.0, all_append P xs ys h.1 k)

pub all_map : (P : ℕ → Type 0) (f : ℕ → ℕ) (xs : List ℕ) → All (λ x. P (f x)) xs → All P (map f xs)
all_map P f [] h = tt
all_map P f (x ∷ xs) h = (h.0, all_map P f xs h.1)

pub all-concat : (P : ℕ → Type 0) (f : ℕ → List ℕ) (xs : List ℕ) → All (λ x. All P (f x)) xs → All P (concat_map f xs)
all-concat P f [] h = tt
all-concat P f (x ∷ xs) h = all_append P (f x) (concat_map f xs) h.0 (all-concat P f xs h.1)

pub concat-cong : (f g : ℕ → List ℕ) (xs : List ℕ) → All (λ x. f x ≡ g x) xs → concat_map f xs ≡ concat_map g xs
concat-cong f g [] e = refl
concat-cong f g (x ∷ xs) e = rw (e.0, concat-cong f g xs e.1)

pub all-pairs : (P : ℕ → Type 0) (R : ℕ → ℕ → Type 0) → ((a b : ℕ) → P a → P b → R a b) → (xs : List ℕ) → All P xs → Pairs R xs
all-pairs P R f [] h = tt
all-pairs P R f (x ∷ xs) h = (all-imp P (R x) xs (λ y. f x y h.0) h.1, all-pairs P R f xs h.1)

pub pairs-imp : (P : ℕ → Type 0) (R S : ℕ → ℕ → Type 0) → ((a b : ℕ) → P a → P b → R a b → S a b)
    → (xs : List ℕ) → All P xs → Pairs R xs → Pairs S xs
pairs-imp P R S f [] h k = tt
pairs-imp P R S f (x ∷ xs) h k = (go xs h.1 k.0, pairs-imp P R S f xs h.1 k.1)
  where
    go : (ys : List ℕ) → All P ys → All (R x) ys → All (S x) ys
    go [] p r = tt
    go (y ∷ ys) p r = (f x y h.0 p.0 r.0, go ys p.1 r.1)

pub pairs-append : (R : ℕ → ℕ → Type 0) (xs ys : List ℕ) → Pairs R xs → Pairs R ys → All (λ x. All (R x) ys) xs → Pairs R (xs ++ ys)
pairs-append R [] ys h k across = k
pairs-append R (x ∷ xs) ys h k across = (all_append (R x) xs ys h.0 across.0, pairs-append R xs ys h.1 k across.1)

pub pairs-map : (R : ℕ → ℕ → Type 0) (f : ℕ → ℕ) (xs : List ℕ) → Pairs (λ x y. R (f x) (f y)) xs → Pairs R (map f xs)
pairs-map R f [] h = tt
pairs-map R f (x ∷ xs) h = (all_map (R (f x)) f xs h.0, pairs-map R f xs h.1)

-- where each stands once, an earlier and a later differ
pub pairs-distinct : (R : ℕ → ℕ → Type 0) (xs : List ℕ) → ((a : ℕ) → count a xs ≤ 1) → Pairs R xs → Pairs (λ a b. (a ≡ b → ⊥) × R a b) xs
pairs-distinct R [] once h = tt
pairs-distinct R (x ∷ xs) once h = (
  all_of (λ b. (x ≡ b → ⊥) × R x b) xs (λ b m. (λ e. omega (arith, bit-eq x x refl, once x, ap (λ a. count a xs) e), all-at (R x) xs b h.0 m)),
  pairs-distinct R xs (λ a. omega (arith, once a)) h.1,
)

pub pairs-once : (xs : List ℕ) → Pairs (λ a b. a ≡ b → ⊥) xs → (a : ℕ) → count a xs ≤ 1
pairs-once [] h a = omega arith
pairs-once (x ∷ xs) h a = go (eqb a x) refl (pairs-once xs h.1 a)
  where
    go : (t : Bool) → eqb a x ≡ t → count a xs ≤ 1 → bit t + count a xs ≤ 1
    go true e later = omega (arith, count_none a xs (rw (eqb-true a x e) h.0))
    go false e later = omega arith

pub pairs-both : (R S : ℕ → ℕ → Type 0) (xs : List ℕ) → Pairs R xs → Pairs S xs → Pairs (λ a b. R a b × S a b) xs
pairs-both R S [] h k = tt
pairs-both R S (x ∷ xs) h k = (
  all_of (λ b. R x b × S x b) xs (λ b m. (all-at (R x) xs b h.0 m, all-at (S x) xs b k.0 m)),
  pairs-both R S xs h.1 k.1,
)

-- two that stand there are one, or one of them stands before the other
pub pairs-at : (R : ℕ → ℕ → Type 0) (xs : List ℕ) (a b : ℕ) → Pairs R xs → 0 < count a xs → 0 < count b xs → (a ≡ b) ⊎ (R a b ⊎ R b a)
pairs-at R [] a b h m k = absurd (omega arith)
pairs-at R (x ∷ xs) a b h m k = go (eqb a x) refl (eqb b x) refl m k (pairs-at R xs a b h.1)
  where
    go : (s : Bool) → eqb a x ≡ s → (t : Bool) → eqb b x ≡ t → 0 < bit s + count a xs → 0 < bit t + count b xs
        → (0 < count a xs → 0 < count b xs → (a ≡ b) ⊎ (R a b ⊎ R b a)) → (a ≡ b) ⊎ (R a b ⊎ R b a)
    go true e true f m k later = inl (eqb-true a x e ∙ sym (eqb-true b x f))
    go true e false f m k later = inr (inl (rw (eqb-true a x e) (all-at (R x) xs b h.0 (omega arith))))
    go false e true f m k later = inr (inr (rw (eqb-true b x f) (all-at (R x) xs a h.0 (omega arith))))
    go false e false f m k later = later (omega arith) (omega arith)

-- ---- Filtering

pub all_filter : (P : ℕ → Type 0) (k : ℕ → Bool) (xs : List ℕ) → All P xs → All (λ x. (k x ≡ true) × P x) (filter k xs)
all_filter P k [] h = tt
all_filter P k (x ∷ xs) h = go (k x) refl (all_filter P k xs h.1)
  where
    go : (b : Bool) → k x ≡ b → All (λ x. (k x ≡ true) × P x) (filter k xs)
        → All (λ x. (k x ≡ true) × P x) (pick b (x ∷ filter k xs) (filter k xs))
    go true e rest = ((e, h.0), rest)
    go false e rest = rest

pub pairs-filter : (R : ℕ → ℕ → Type 0) (k : ℕ → Bool) (xs : List ℕ) → Pairs R xs → Pairs R (filter k xs)
pairs-filter R k [] h = tt
pairs-filter R k (x ∷ xs) h = go (k x) (pairs-filter R k xs h.1)
  where
    go : (b : Bool) → Pairs R (filter k xs) → Pairs R (pick b (x ∷ filter k xs) (filter k xs))
    go true rest = (all-imp (λ y. (k y ≡ true) × R x y) (R x) (filter k xs) (λ y h. h.1) (all_filter (R x) k xs h.0), rest)
    go false rest = rest

pub filter_none : (k : ℕ → Bool) (xs : List ℕ) → All (λ x. k x ≡ false) xs → filter k xs ≡ []
filter_none k [] h = refl
filter_none k (x ∷ xs) h = rw h.0 (filter_none k xs h.1)

pub filter-append : (k : ℕ → Bool) (xs ys : List ℕ) → filter k (xs ++ ys) ≡ filter k xs ++ filter k ys
filter-append k [] ys = refl
filter-append k (x ∷ xs) ys = rw (filter-append k xs ys) (go (k x))
  where
    go : (b : Bool) → pick b (x ∷ (filter k xs ++ filter k ys)) (filter k xs ++ filter k ys) ≡ pick b (x ∷ filter k xs) (filter k xs) ++ filter k ys
    go true = refl
    go false = refl

-- what is kept stands there as often as before
pub count-filter : (k : ℕ → Bool) (a : ℕ) (xs : List ℕ) → k a ≡ true → count a (filter k xs) ≡ count a xs
count-filter k a [] e = refl
count-filter k a (x ∷ xs) e = go (k x) refl (count-filter k a xs e)
  where
    go : (b : Bool) → k x ≡ b → count a (filter k xs) ≡ count a xs → count a (pick b (x ∷ filter k xs) (filter k xs)) ≡ bit (eqb a x) + count a xs
    go true q rest = rw rest
    go false q rest = omega (arith, bit-ne a x (λ s. true≢false (sym e ∙ ap k s ∙ q)))

-- ---- Tests over a list, and below a number

pub every-all : (p : ℕ → Bool) (xs : List ℕ) → (every p xs ≡ true) ↔ All (λ x. p x ≡ true) xs
every-all p [] = (λ e. tt, λ h. refl)
every-all p (x ∷ xs) = (
  λ e. let h = (and-eq-true_iff (p x) (every p xs)).0 e in (h.0, (every-all p xs).0 h.1),
  λ h. (and-eq-true_iff (p x) (every p xs)).1 (h.0, (every-all p xs).1 h.1),
)

pub all-below : (p : ℕ → Bool) (n : ℕ) → (all_below p n ≡ true) ↔ ((i : ℕ) → i < n → p i ≡ true)
all-below p zero = (λ e i h. absurd (omega arith), λ h. refl)
all-below p (suc n) = (
  λ e i h. let both = (and-eq-true_iff (p n) (all_below p n)).0 e in
      go both.0 ((all-below p n).0 both.1) i (eq-or-lt_of_le {n = i} {m = n} (omega arith)),
  λ h. (and-eq-true_iff (p n) (all_below p n)).1 (h n (omega arith), (all-below p n).1 (λ i l. h i (omega arith))),
)
  where
    go : p n ≡ true → ((i : ℕ) → i < n → p i ≡ true) → (i : ℕ) → (i ≡ n) ⊎ (i < n) → p i ≡ true
    go last rest i (inl q) = rw q last
    go last rest i (inr l) = rest i l

-- where the test fails, it fails somewhere
pub all-below-fails : (p : ℕ → Bool) (n : ℕ) → (all_below p n ≡ false) ↔ ((i : ℕ) × (i < n) × (p i ≡ false))
all-below-fails p n = (find n, λ k. refute (all_below p n) refl k)
  where
    find : (n : ℕ) → all_below p n ≡ false → (i : ℕ) × (i < n) × (p i ≡ false)
    find zero e = absurd (true≢false e)
    find (suc n) e = go (p n) refl (find n) e
      where
        go : (b : Bool) → p n ≡ b → (all_below p n ≡ false → (i : ℕ) × (i < n) × (p i ≡ false)) → (b && all_below p n) ≡ false
            → (i : ℕ) × (i < suc n) × (p i ≡ false)
        go true q rest e = let k = rest e in (k.0, omega arith, k.2)
        go false q rest e = (n, omega arith, q)

    refute : (b : Bool) → all_below p n ≡ b → ((i : ℕ) × (i < n) × (p i ≡ false)) → b ≡ false
    refute true e k = absurd (true≢false (sym ((all-below p n).0 e k.0 k.1) ∙ k.2))
    refute false e k = refl

pub any_below_lem : (p : ℕ → Bool) (n : ℕ) → (any_below p n ≡ true) ↔ ((i : ℕ) × (i < n) × (p i ≡ true))
any_below_lem p zero = (λ e. absurd (false≢true e), λ k. absurd (omega (arith, k.1)))
any_below_lem p (suc n) = (
  find (p n) refl (any_below_lem p n).0,
  λ k. meet k.0 k.2 (λ l. (any_below_lem p n).1 (k.0, l, k.2)) (eq-or-lt_of_le {n = k.0} {m = n} (omega (arith, k.1))),
)
  where
    find : (b : Bool) → p n ≡ b → (any_below p n ≡ true → (i : ℕ) × (i < n) × (p i ≡ true)) → (b || any_below p n) ≡ true
        → (i : ℕ) × (i < suc n) × (p i ≡ true)
    find true q rest e = (n, omega arith, q)
    find false q rest e = let k = rest e in (k.0, omega arith, k.2)

    meet : (i : ℕ) → p i ≡ true → (i < n → any_below p n ≡ true) → (i ≡ n) ⊎ (i < n) → (p n || any_below p n) ≡ true
    meet i e rest (inl q) = rw (← q, e)
    meet i e rest (inr l) = rw (rest l) (or-true (p n))

pub any-below-fails : (p : ℕ → Bool) (n : ℕ) → (any_below p n ≡ false) ↔ ((i : ℕ) → i < n → p i ≡ false)
any-below-fails p n = (λ e i h. refute e i h (p i) refl, λ h. go h (any_below p n) refl)
  where
    refute : any_below p n ≡ false → (i : ℕ) → i < n → (b : Bool) → p i ≡ b → b ≡ false
    refute e i h true q = absurd (true≢false (sym ((any_below_lem p n).1 (i, h, q)) ∙ e))
    refute e i h false q = refl

    go : ((i : ℕ) → i < n → p i ≡ false) → (b : Bool) → any_below p n ≡ b → b ≡ false
    go h true e = let k = (any_below_lem p n).0 e in absurd (true≢false (sym k.2 ∙ h k.0 k.1))
    go h false e = refl

pub all-below-cong : (p q : ℕ → Bool) (n : ℕ) → ((i : ℕ) → i < n → p i ≡ q i) → all_below p n ≡ all_below q n
all-below-cong p q zero h = refl
all-below-cong p q (suc n) h = ap₂ ◌&&◌ (h n (omega arith)) (all-below-cong p q n (λ i l. h i (omega arith)))

pub any-below-cong : (p q : ℕ → Bool) (n : ℕ) → ((i : ℕ) → i < n → p i ≡ q i) → any_below p n ≡ any_below q n
any-below-cong p q zero h = refl
any-below-cong p q (suc n) h = ap₂ ◌||◌ (h n (omega arith)) (any-below-cong p q n (λ i l. h i (omega arith)))

-- ---- The elements whose places pass a test: that of place i stands at `new_number k i`

pub new-number-front : (k : ℕ → Bool) (i : ℕ) → new_number k (suc i) ≡ bit (k 0) + new_number (λ j. k (suc j)) i
new-number-front k zero = refl
new-number-front k (suc i) = omega (arith, new-number-front k i)

pub keep-at-length {ℓ} : {A : Type ℓ} (k : ℕ → Bool) (xs : List A) → length (keep_at k xs) ≡ new_number k (length xs)
keep-at-length k [] = refl
keep-at-length k (x ∷ xs) = rw (new-number-front k (length xs)) (go (k 0) (keep-at-length (λ j. k (suc j)) xs))
  where
    go : (b : Bool) → length (keep_at (λ j. k (suc j)) xs) ≡ new_number (λ j. k (suc j)) (length xs)
        → length (cond b (x ∷ keep_at (λ j. k (suc j)) xs) (keep_at (λ j. k (suc j)) xs)) ≡ bit b + new_number (λ j. k (suc j)) (length xs)
    go true e = omega arith
    go false e = omega arith

pub keep-at-kept {ℓ} : {A : Type ℓ} (k : ℕ → Bool) (xs : List A) (i : ℕ) (d : A) → i < length xs → k i ≡ true
    → get_or (keep_at k xs) (new_number k i) d ≡ get_or xs i d
keep-at-kept k [] i d h e = absurd (omega arith)
keep-at-kept k (x ∷ xs) zero d h e = rw e
keep-at-kept k (x ∷ xs) (suc i) d h e = rw (new-number-front k i) (past (k 0) ∙ keep-at-kept (λ j. k (suc j)) xs i d (omega arith) e)
  where
    past : (b : Bool) → get_or (cond b (x ∷ keep_at (λ j. k (suc j)) xs) (keep_at (λ j. k (suc j)) xs)) (bit b + new_number (λ j. k (suc j)) i) d
        ≡ get_or (keep_at (λ j. k (suc j)) xs) (new_number (λ j. k (suc j)) i) d
    past true = rw one-add
    past false = rw zero-add
