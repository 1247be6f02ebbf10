-- Flags as bits: setting a bit that is clear leaves every other as it was (`other-bit`), and so
-- does a flag that is given to a node (`given-keeps`). Assumes nothing.
use mathlib.Core.Path.{◌≡◌, refl, sym, ap, ◌∙◌}
use mathlib.Core.Bool.{Bool, true, false, cond}
use Prim.Native.Nat.{ℕ, zero, suc, ◌+◌, ◌*◌, ◌/◌, ◌%◌, ◌^◌}
use native.Mathlib.Nat.{div-div-eq-div-mul}
use native.Mathlib.Omega.{arith}
use lib.Dec.{eqb}
use borrow.Author.Tests.{eqb-false}
use Rattle.model.specs.Node.{has_flag}
use Rattle.model.specs.Setting.{with_given}

-- a higher bit is a bit of the half
half-bit : (i f : ℕ) → has_flag (2 ^ suc i) f ≡ has_flag (2 ^ i) (f / 2)
half-bit i f =
    let double : 2 ^ suc i ≡ 2 * 2 ^ i = omega arith in
    ap (λ (d : ℕ). eqb (f / d % 2) 1) double ∙ ap (λ (q : ℕ). eqb (q % 2) 1) (sym (div-div-eq-div-mul f 2 (2 ^ i)))

pub other-bit : (k i f : ℕ) → (i ≡ k → ⊥) → has_flag (2 ^ k) f ≡ false → has_flag (2 ^ i) (f + 2 ^ k) ≡ has_flag (2 ^ i) f
other-bit zero zero f h e = absurd (h refl)
other-bit zero (suc i) f h e =
    let clear = eqb-false (f / 1 % 2) 1 e in
    let same : (f + 1) / 2 ≡ f / 2 = omega (arith, clear) in
    half-bit i (f + 1) ∙ ap (has_flag (2 ^ i)) same ∙ sym (half-bit i f)
other-bit (suc k) zero f h e =
    let same : (f + 2 ^ suc k) / 1 % 2 ≡ f / 1 % 2 = omega arith in ap (λ (q : ℕ). eqb q 1) same
other-bit (suc k) (suc i) f h e =
    let half : (f + 2 ^ suc k) / 2 ≡ f / 2 + 2 ^ k = omega arith in
    half-bit i (f + 2 ^ suc k) ∙ ap (has_flag (2 ^ i)) half
    ∙ other-bit k i (f / 2) (λ same. h (ap suc same)) (sym (half-bit k f) ∙ e) ∙ sym (half-bit i f)

pub given-keeps : (k i given f : ℕ) → (i ≡ k → ⊥) → has_flag (2 ^ i) (with_given (2 ^ k) given f) ≡ has_flag (2 ^ i) f
given-keeps k i given f h = go (has_flag (2 ^ k) given) (has_flag (2 ^ k) f) refl
  where
    go : (b c : Bool) → has_flag (2 ^ k) f ≡ c → has_flag (2 ^ i) (cond b (cond c f (f + 2 ^ k)) f) ≡ has_flag (2 ^ i) f
    go false c e = refl
    go true true e = refl
    go true false e = other-bit k i f h e
