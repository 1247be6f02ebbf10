-- A list's length by its counts: one that has each number below n at most once, and nothing else,
-- is no longer than n; if it has length n, it has each once, and conversely; and one of length n
-- that has each once has nothing else. Assumes nothing.
use mathlib.Core.Path.{◌≡◌, refl, sym, ap, ◌∙◌}
use mathlib.Core.Logic.{◌⊎◌, inl, inr}
use mathlib.Core.Bool.{Bool, true, false}
use mathlib.Core.List.{List, [], ◌∷◌}
use Prim.Native.Nat.{ℕ, zero, suc, ◌+◌, ◌≤◌, ◌<◌}
use native.Mathlib.Nat.{eq-or-lt_of_le}
use native.Mathlib.Omega.{arith}
use lib.Dec.{eqb, ltb}
use lib.ListN.{length}
use borrow.Author.Tests.{eqb-true, ltb-true, ltb-false}
use Rattle.model.specs.Lists.{All, bit, count}
use Rattle.laws.proofs.ListLaws.{bit-eq, bit-ne}

-- each number below n once, and nothing else
pub record EachOnce (n : ℕ) (xs : List ℕ) : Type 0 where
  pub once : (i : ℕ) → i < n → count i xs ≡ 1
  pub nothing-else : All (λ x. x < n) xs

-- how many elements are below n
abbrev counted : List ℕ → ℕ → ℕ
counted xs zero = 0
counted xs (suc n) = count n xs + counted xs n

counted-empty : (n : ℕ) → counted [] n ≡ 0
counted-empty zero = refl
counted-empty (suc n) = omega (arith, counted-empty n)

counted-above : (x : ℕ) (xs : List ℕ) (n : ℕ) → n ≤ x → counted (x ∷ xs) n ≡ counted xs n
counted-above x xs zero h = refl
counted-above x xs (suc n) h = omega (arith, counted-above x xs n (omega arith), bit-ne n x (λ e. omega arith))

counted-below : (x : ℕ) (xs : List ℕ) (n : ℕ) → x < n → counted (x ∷ xs) n ≡ suc (counted xs n)
counted-below x xs zero h = absurd (omega arith)
counted-below x xs (suc n) h = go (counted-below x xs n) (eq-or-lt_of_le {n = x} {m = n} (omega arith))
  where
    go : (x < n → counted (x ∷ xs) n ≡ suc (counted xs n)) → (x ≡ n) ⊎ (x < n) → counted (x ∷ xs) (suc n) ≡ suc (counted xs (suc n))
    go earlier (inl e) = omega (arith, counted-above x xs n (omega arith), bit-eq n x (omega arith))
    go earlier (inr l) = omega (arith, earlier l, bit-ne n x (λ e. omega arith))

counted-length : (n : ℕ) (xs : List ℕ) → All (λ x. x < n) xs → counted xs n ≡ length xs
counted-length n [] h = counted-empty n
counted-length n (x ∷ xs) h = omega (arith, counted-below x xs n h.0, counted-length n xs h.1)

counted-most : (xs : List ℕ) (n : ℕ) → ((a : ℕ) → a < n → count a xs ≤ 1) → counted xs n ≤ n
counted-most xs zero h = omega arith
counted-most xs (suc n) h = omega (arith, h n (omega arith), counted-most xs n (λ a l. h a (omega arith)))

counted-once : (xs : List ℕ) (n : ℕ) → ((a : ℕ) → a < n → count a xs ≡ 1) → counted xs n ≡ n
counted-once xs zero h = refl
counted-once xs (suc n) h = omega (arith, h n (omega arith), counted-once xs n (λ a l. h a (omega arith)))

module _ (n : ℕ) (xs : List ℕ) (only : All (λ x. x < n) xs) where
  pub length-at-most-once : ((a : ℕ) → a < n → count a xs ≤ 1) → length xs ≤ n
  length-at-most-once h = omega (arith, counted-length n xs only, counted-most xs n h)

  pub length-once : ((a : ℕ) → a < n → count a xs ≡ 1) → length xs ≡ n
  length-once h = omega (arith, counted-length n xs only, counted-once xs n h)

module _ (n : ℕ) (xs : List ℕ) (only : All (λ x. x < n) xs) (most : (a : ℕ) → a < n → count a xs ≤ 1) where
  pub once-of-length : length xs ≡ n → (a : ℕ) → a < n → count a xs ≡ 1
  once-of-length l a h = go (count a xs) refl
    where
      -- if a stood nowhere, it could stand in front
      more : count a xs ≡ 0 → (b : ℕ) → b < n → count b (a ∷ xs) ≤ 1
      more none b i = go (eqb b a) refl
        where
          go : (t : Bool) → eqb b a ≡ t → bit t + count b xs ≤ 1
          go true e = omega (arith, ap (λ x. count x xs) (eqb-true b a e))
          go false e = omega (arith, most b i)

      go : (k : ℕ) → count a xs ≡ k → count a xs ≡ 1
      go zero e = absurd (omega (arith, length-at-most-once n (a ∷ xs) (h, only) (more e)))
      go (suc k) e = omega (arith, most a h)

-- ---- Nothing else

counted-within : (n : ℕ) (xs : List ℕ) → counted xs n ≤ length xs
counted-within n [] = omega (arith, counted-empty n)
counted-within n (x ∷ xs) = go (ltb x n) refl (counted-within n xs)
  where
    go : (t : Bool) → ltb x n ≡ t → counted xs n ≤ length xs → counted (x ∷ xs) n ≤ suc (length xs)
    go true e rest = omega (arith, counted-below x xs n (ltb-true x n e))
    go false e rest = omega (arith, counted-above x xs n (ltb-false x n e))

all-counted : (n : ℕ) (xs : List ℕ) → counted xs n ≡ length xs → All (λ x. x < n) xs
all-counted n [] e = tt
all-counted n (x ∷ xs) e = go (ltb x n) refl (all-counted n xs)
  where
    go : (t : Bool) → ltb x n ≡ t → (counted xs n ≡ length xs → All (λ x. x < n) xs) → All (λ x. x < n) (x ∷ xs)
    go true q rest = (ltb-true x n q, rest (omega (arith, counted-below x xs n (ltb-true x n q))))
    go false q rest = absurd (omega (arith, counted-above x xs n (ltb-false x n q), counted-within n xs))

pub once-nothing-else : (n : ℕ) (xs : List ℕ) → length xs ≡ n → ((a : ℕ) → a < n → count a xs ≡ 1) → All (λ x. x < n) xs
once-nothing-else n xs l h = all-counted n xs (counted-once xs n h ∙ sym l)
