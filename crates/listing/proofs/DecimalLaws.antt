-- Numbers in decimal: of one digit (`number-digit`), of more (`number_more`), and that twenty bytes
-- hold each (`number_short`). The definition counts digits down; more of them than a number has
-- make no difference (`digits-enough`). Assumes nothing.
use mathlib.Core.Path.{◌≡◌, refl, sym, ap}
use mathlib.Core.Bool.{Bool, true, false, cond}
use mathlib.Core.List.{List, [], ◌∷◌, ◌++◌}
use Prim.Native.Nat.{ℕ, zero, suc, ◌+◌, ◌/◌, ◌%◌, ◌^◌, ◌≤◌, ◌<◌}
use native.Mathlib.Nat.{pow-succ'}
use native.Mathlib.Omega.{arith}
use lib.Dec.{ltb}
use lib.ListN.{length, length-append}
use borrow.Author.Tests.{lt-ltb, le-ltb, ltb-false}
use Rattle.model.specs.Listing.{digits_up_to}
use Rattle.listing.specs.Texts.{number}

digits-few : (k n : ℕ) → length (digits_up_to k n) ≤ k
digits-few zero n = omega arith
digits-few (suc k) n = go (ltb n 10) (digits-few k (n / 10))
  where
    go : (t : Bool) → length (digits_up_to k (n / 10)) ≤ k
        → length (cond t ((0x30 + n) ∷ []) (digits_up_to k (n / 10) ++ ((0x30 + n % 10) ∷ []))) ≤ suc k
    go true few = omega arith
    go false few = omega (arith, length-append (digits_up_to k (n / 10)) ((0x30 + n % 10) ∷ []))

-- a number of more than one digit has digits left
some_left : (k n : ℕ) → 10 ≤ n → n < 10 ^ suc k → 0 < k
some_left zero n h l = absurd (omega arith)
some_left (suc k) n h l = omega arith

digits-enough : (k n : ℕ) → 0 < k → n < 10 ^ k → digits_up_to (suc k) n ≡ digits_up_to k n
digits-enough zero n some h = absurd (omega arith)
digits-enough (suc k) n some h = go (ltb n 10) refl (digits-enough k (n / 10))
  where
    go : (t : Bool) → ltb n 10 ≡ t → (0 < k → n / 10 < 10 ^ k → digits_up_to (suc k) (n / 10) ≡ digits_up_to k (n / 10))
        → cond t ((0x30 + n) ∷ []) (digits_up_to (suc k) (n / 10) ++ ((0x30 + n % 10) ∷ []))
        ≡ cond t ((0x30 + n) ∷ []) (digits_up_to k (n / 10) ++ ((0x30 + n % 10) ∷ []))
    go true e fewer = refl
    go false e fewer =
        let more = ltb-false n 10 e in
        ap (λ (l : List ℕ). l ++ ((0x30 + n % 10) ∷ [])) (fewer (some_left k n more h) (omega (arith, pow-succ' 10 k)))

pub number_short : (n : ℕ) → length (number n) ≤ 20
unfolding number
number_short n = digits-few 20 n

pub number-digit : (n : ℕ) → n < 10 → number n ≡ (48 + n) ∷ []
unfolding number
number-digit n h = rw (lt-ltb n 10 h)

digits_more : (k n : ℕ) → 0 < k → 10 ≤ n → n / 10 < 10 ^ k → digits_up_to (suc k) n ≡ digits_up_to (suc k) (n / 10) ++ ((0x30 + n % 10) ∷ [])
digits_more k n some h fits =
    rw (le-ltb n 10 h) (ap (λ (l : List ℕ). l ++ ((0x30 + n % 10) ∷ [])) (sym (digits-enough k (n / 10) some fits)))

pub number_more : (n : ℕ) → 10 ≤ n → n < 2 ^ 32 → number n ≡ number (n / 10) ++ ((48 + n % 10) ∷ [])
unfolding number
number_more n h fits = digits_more 19 n (omega arith) h (omega arith)

pub tenth-short : (n : ℕ) → 10 ≤ n → n < 2 ^ 32 → length (number (n / 10)) ≤ 19
tenth-short n h fits =
    omega (arith, number_short n, ap length (number_more n h fits), length-append (number (n / 10)) ((48 + n % 10) ∷ []))
