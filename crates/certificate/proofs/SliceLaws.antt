-- Parts of an array by their indices: what holds at each index, at each and the next, and at each
-- and every later one; and a part as a loop over it reads it. Assumes nothing.
use mathlib.Core.Path.{◌≡◌, refl, ◌∙◌}
use mathlib.Core.Logic.{◌⊎◌, inl, inr}
use mathlib.Core.List.{List, [], ◌∷◌}
use Prim.Native.Nat.{ℕ, zero, suc, ◌+◌, ◌-◌, ◌≤◌, ◌<◌}
use native.Mathlib.Nat.{eq-or-lt_of_le}
use native.Mathlib.Decide.{dec_lt}
use native.Mathlib.Omega.{arith}
use lib.ListN.{length, get_or, take, drop, length-drop}
use lib.Seq.{slice, slice-cons, length-take-le}
use Rattle.std.proofs.lemmas.List.{get_or-take, get_or-drop}
use Rattle.model.specs.Lists.{All, Pairs}
use Rattle.laws.proofs.OrderKeys.{First, Neighbours}
use Rattle.child_lists.proofs.LinkLaws.{slice-done}

-- P holds of the entries from `start` to `end`
abbrev pub Each : (ℕ → Type 0) → List ℕ → ℕ → ℕ → Type 0
Each P array start end = (k : ℕ) → start ≤ k → k < end → P (get_or array k 0)

-- R holds of each of them and the next
abbrev pub EachNext : (ℕ → ℕ → Type 0) → List ℕ → ℕ → ℕ → Type 0
EachNext R array start end = (k : ℕ) → start ≤ k → suc k < end → R (get_or array k 0) (get_or array (suc k) 0)

-- R holds of each of them up to `mid` and every later one up to `end`
abbrev pub EachLater : (ℕ → ℕ → Type 0) → List ℕ → ℕ → ℕ → ℕ → Type 0
EachLater R array start mid end = (i j : ℕ) → start ≤ i → i < mid → i < j → j < end → R (get_or array i 0) (get_or array j 0)

-- ---- One more

module _ (array : List ℕ) where
  pub each_none : (P : ℕ → Type 0) {at : ℕ} → Each P array at at
  each_none P k l h = absurd (omega arith)

  pub each_more : (P : ℕ → Type 0) {start i : ℕ} → Each P array start i → P (get_or array i 0) → Each P array start (i + 1)
  each_more P {start} {i} each here k l h = go (eq-or-lt_of_le {n = k} {m = i} (omega arith))
    where
      go : (k ≡ i) ⊎ (k < i) → P (get_or array k 0)
      go (inl e) = rw e here
      go (inr less) = each k l less

  pub next_more : (R : ℕ → ℕ → Type 0) {start : ℕ} (i : ℕ) → EachNext R array start i → R (get_or array (i - 1) 0) (get_or array i 0)
      → EachNext R array start (i + 1)
  next_more R {start} i each here k l h = go (eq-or-lt_of_le {n = suc k} {m = i} (omega arith))
    where
      go : (suc k ≡ i) ⊎ (suc k < i) → R (get_or array k 0) (get_or array (suc k) 0)
      go (inl e) = let before : i - 1 ≡ k = omega arith in rw e (rw before at here)
      go (inr less) = each k l less

  -- a part and the next, where R holds of each entry of the one and each of the other
  pub later-parts : (R : ℕ → ℕ → Type 0) {start at next : ℕ} → EachLater R array start at at → EachLater R array at next next
      → ((i j : ℕ) → start ≤ i → i < at → at ≤ j → j < next → R (get_or array i 0) (get_or array j 0)) → EachLater R array start next next
  later-parts R {start} {at} {next} one other across i j l h less within = go (dec_lt i at) (dec_lt j at)
    where
      go : Dec (i < at) → Dec (j < at) → R (get_or array i 0) (get_or array j 0)
      go (yes p) (yes q) = one i j l p less q
      go (yes p) (no q) = across i j l p (omega arith) within
      go (no p) d = other i j (omega arith) h less within

-- ---- A part as a loop over it reads it

module _ (array : List ℕ) (from end : ℕ) (low : from ≤ end) (fits : end ≤ length array) where
  pub part-length : length (take (end - from) (drop from array)) ≡ end - from
  part-length = length-take-le (end - from) (drop from array) (omega (arith, length-drop from array))

  pub part-read : (i : ℕ) → i < length (take (end - from) (drop from array))
      → (from + i < end) × (get_or (take (end - from) (drop from array)) i 0 ≡ get_or array (from + i) 0)
  part-read i h =
      let within : i < end - from = omega (arith, part-length) in
      (omega arith, get_or-take (end - from) (drop from array) i 0 within ∙ get_or-drop from array i 0)

-- ---- Lists

module _ (array : List ℕ) (end : ℕ) (fits : end ≤ length array) where
  opened : (at : ℕ) → at < end → slice at end array ≡ get_or array at 0 ∷ slice (suc at) end array
  opened at h = slice-cons at end array 0 h fits

  empty : (at : ℕ) → at ≤ end → end - at ≡ 0 → slice at end array ≡ []
  empty at l e = slice-done at end array l (omega arith)

  -- ---- Each

  all_of_each : (P : ℕ → Type 0) (n at : ℕ) → at ≤ end → end - at ≡ n → Each P array at end → All P (slice at end array)
  all_of_each P zero at l e each = rw (empty at l e) tt
  all_of_each P (suc n) at l e each =
      rw (opened at (omega arith)) (
        each at (omega arith) (omega arith),
        all_of_each P n (suc at) (omega arith) (omega arith) (λ k i h. each k (omega arith) h),
      )

  pub each_all : (P : ℕ → Type 0) (start : ℕ) → start ≤ end → Each P array start end → All P (slice start end array)
  each_all P start l each = all_of_each P (end - start) start l (omega arith) each

  each-of-all : (P : ℕ → Type 0) (n at : ℕ) → at ≤ end → end - at ≡ n → All P (slice at end array) → Each P array at end
  each-of-all P zero at l e all k i h = absurd (omega arith)
  each-of-all P (suc n) at l e all k i h =
      go (λ l' e' rest i'. each-of-all P n (suc at) l' e' rest k i' h) (eq-or-lt_of_le {n = at} {m = k} i)
    where
      both : All P (get_or array at 0 ∷ slice (suc at) end array)
      both = rw (opened at (omega arith)) at all

      go : (suc at ≤ end → end - suc at ≡ n → All P (slice (suc at) end array) → suc at ≤ k → P (get_or array k 0)) → (at ≡ k) ⊎ (at < k)
          → P (get_or array k 0)
      go later (inl q) = rw q at both.0
      go later (inr q) = later (omega arith) (omega arith) both.1 (omega arith)

  pub all-each : (P : ℕ → Type 0) (start : ℕ) → start ≤ end → All P (slice start end array) → Each P array start end
  all-each P start l all = each-of-all P (end - start) start l (omega arith) all

  -- ---- Each and the next

  neighbours-of-each : (R : ℕ → ℕ → Type 0) (n at : ℕ) → at ≤ end → end - at ≡ n → EachNext R array at end → Neighbours R (slice at end array)
  neighbours-of-each R zero at l e each = rw (empty at l e) tt
  neighbours-of-each R (suc n) at l e each =
      rw (opened at (omega arith)) (
        near (end - suc at) refl,
        neighbours-of-each R n (suc at) (omega arith) (omega arith) (λ k i h. each k (omega arith) h),
      )
    where
      near : (m : ℕ) → end - suc at ≡ m → First R (get_or array at 0) (slice (suc at) end array)
      near zero q = rw (empty (suc at) (omega arith) q) tt
      near (suc m) q = rw (opened (suc at) (omega arith)) (each at (omega arith) (omega arith))

  pub each-neighbours : (R : ℕ → ℕ → Type 0) (start : ℕ) → start ≤ end → EachNext R array start end → Neighbours R (slice start end array)
  each-neighbours R start l each = neighbours-of-each R (end - start) start l (omega arith) each

  -- ---- Each and every later one

  pairs-of-each : (R : ℕ → ℕ → Type 0) (n at : ℕ) → at ≤ end → end - at ≡ n → EachLater R array at end end → Pairs R (slice at end array)
  pairs-of-each R zero at l e each = rw (empty at l e) tt
  pairs-of-each R (suc n) at l e each =
      rw (opened at (omega arith)) (
        each_all (R (get_or array at 0)) (suc at) (omega arith) (λ k i h. each at k (omega arith) (omega arith) (omega arith) h),
        pairs-of-each R n (suc at) (omega arith) (omega arith) (λ i j a b c d. each i j (omega arith) b c d),
      )

  pub each-pairs : (R : ℕ → ℕ → Type 0) (start : ℕ) → start ≤ end → EachLater R array start end end → Pairs R (slice start end array)
  each-pairs R start l each = pairs-of-each R (end - start) start l (omega arith) each

  each-of-pairs : (R : ℕ → ℕ → Type 0) (n at : ℕ) → at ≤ end → end - at ≡ n → Pairs R (slice at end array) → EachLater R array at end end
  each-of-pairs R zero at l e pairs i j a b c d = absurd (omega arith)
  each-of-pairs R (suc n) at l e pairs i j a b c d =
      go (λ l' e' rest a'. each-of-pairs R n (suc at) l' e' rest i j a' b c d) (eq-or-lt_of_le {n = at} {m = i} a)
    where
      both : Pairs R (get_or array at 0 ∷ slice (suc at) end array)
      both = rw (opened at (omega arith)) at pairs

      go : (suc at ≤ end → end - suc at ≡ n → Pairs R (slice (suc at) end array) → suc at ≤ i → R (get_or array i 0) (get_or array j 0))
          → (at ≡ i) ⊎ (at < i) → R (get_or array i 0) (get_or array j 0)
      go later (inl q) = rw q at (all-each (R (get_or array at 0)) (suc at) (omega arith) both.0 j (omega arith) d)
      go later (inr q) = later (omega arith) (omega arith) both.1 (omega arith)

  pub pairs-each : (R : ℕ → ℕ → Type 0) (start : ℕ) → start ≤ end → Pairs R (slice start end array) → EachLater R array start end end
  pairs-each R start l pairs = each-of-pairs R (end - start) start l (omega arith) pairs
