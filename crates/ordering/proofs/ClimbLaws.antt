-- Climbing by next siblings and parents: parents are lower, so any fuel above the node is enough,
-- and what each turn of `climb`'s loop keeps. Assumes nothing.
use mathlib.Core.Path.{◌≡◌, refl, sym, ap, ◌∙◌}
use mathlib.Core.Bool.{Bool, true, false, cond}
use Prim.Native.Nat.{ℕ, zero, suc, ◌+◌, ◌≤◌, ◌<◌}
use native.Mathlib.Omega.{arith}
use lib.Dec.{eqb}
use borrow.Author.Tests.{eqb-false, eq-eqb, ne_eqb}
use Rattle.model.specs.Node.{invalid}
use Rattle.ordering.specs.Ordering.{onward}

module _ (next up : ℕ → ℕ) (from : ℕ) (lower : (y : ℕ) → 0 < y → y ≤ from → up y < y) where
  onward-fuel : (j k n : ℕ) → n < j → n < k → n ≤ from → onward next up j n ≡ onward next up k n
  onward-fuel zero k n a b h = absurd (omega arith)
  onward-fuel (suc j) zero n a b h = absurd (omega arith)
  onward-fuel (suc j) (suc k) n a b h = go (eqb n 0) refl (onward-fuel j k (up n))
    where
      go : (t : Bool) → eqb n 0 ≡ t → (up n < j → up n < k → up n ≤ from → onward next up j (up n) ≡ onward next up k (up n))
          → cond t invalid (cond (eqb (next n) invalid) (onward next up j (up n)) (next n))
          ≡ cond t invalid (cond (eqb (next n) invalid) (onward next up k (up n)) (next n))
      go true e above = refl
      go false e above =
          let down = lower n (omega (arith, eqb-false n 0 e)) h in
          ap (λ (m : ℕ). cond (eqb (next n) invalid) m (next n)) (above (omega arith) (omega arith) (omega arith))

  -- one node's turn
  onward-at : (n : ℕ) → (n ≡ 0 → ⊥) → onward next up (n + 1) n ≡ cond (eqb (next n) invalid) (onward next up n (up n)) (next n)
  onward-at n other =
      ap (λ (k : ℕ). onward next up k n) (let e : n + 1 ≡ suc n = omega arith in e)
      ∙ ap (λ (t : Bool). cond t invalid (cond (eqb (next n) invalid) (onward next up n (up n)) (next n))) (ne_eqb n 0 other)

  pub onward-up : (n : ℕ) → (n ≡ 0 → ⊥) → n ≤ from → next n ≡ invalid → onward next up (up n + 1) (up n) ≡ onward next up (n + 1) n
  onward-up n other h none =
      let down = lower n (omega arith) h in
      onward-fuel (up n + 1) n (up n) (omega arith) (omega arith) (omega arith)
      ∙ ap (λ (t : Bool). cond t (onward next up n (up n)) (next n)) (sym (eq-eqb (next n) invalid none)) ∙ sym (onward-at n other)

  pub onward-out : (n : ℕ) → (n ≡ 0 → ⊥) → (next n ≡ invalid → ⊥) → next n ≡ onward next up (n + 1) n
  onward-out n other some =
      ap (λ (t : Bool). cond t (onward next up n (up n)) (next n)) (sym (ne_eqb (next n) invalid some)) ∙ sym (onward-at n other)

  pub onward-root : (n : ℕ) → n ≡ 0 → invalid ≡ onward next up (n + 1) n
  onward-root n e = rw e
