-- Flags as bits: to set a flag that is given is an or of bits (`given_or`), and so is to set all
-- three (`flags-or`). Assumes nothing.
use mathlib.Core.Path.{◌≡◌, refl, sym, ap, ◌∙◌}
use mathlib.Core.Bool.{Bool, true, false}
use Prim.Native.Nat.{ℕ, ◌^◌, min, max}
use native.Mathlib.Omega.{arith}
use lib.Bits.{bit_and}
use lib.Dec.{eqb}
use borrow.Author.Tests.{eqb-true, eqb-false}
use Rattle.std.specs.Int.{bit_at}
use Rattle.std.specs.Int.Bits.{bit_or, or_zero_r, or_add_and}
use Rattle.std.proofs.lemmas.Nat.Bits.{bit_at-lt, bit_at_and, bit_at_or, and_pow, same_from_bits}
use Rattle.model.specs.Node.{with_flag}
use Rattle.model.specs.Setting.{with_given, with_flags}

-- the flag 2 ^ k
module _ (k : ℕ) where
  flag_there : (n : ℕ) → eqb (bit_at n k) 1 ≡ true → bit_and n (2 ^ k) ≡ 2 ^ k
  flag_there n e = and_pow n k ∙ rw (eqb-true (bit_at n k) 1 e) (omega arith)

  flag_missing : (n : ℕ) → eqb (bit_at n k) 1 ≡ false → bit_and n (2 ^ k) ≡ 0
  flag_missing n e =
      let zero : bit_at n k ≡ 0 = omega (arith, eqb-false (bit_at n k) 1 e, bit_at-lt n k) in
      and_pow n k ∙ rw zero (omega arith)

  flag_or : (n : ℕ) → with_flag (2 ^ k) n ≡ bit_or n (2 ^ k)
  flag_or n = go (eqb (bit_at n k) 1) refl
    where
      go : (t : Bool) → eqb (bit_at n k) 1 ≡ t → with_flag (2 ^ k) n ≡ bit_or n (2 ^ k)
      go true e = rw e (omega (arith, flag_there n e, or_add_and n (2 ^ k)))
      go false e = rw e (omega (arith, flag_missing n e, or_add_and n (2 ^ k)))

  given_or : (given n : ℕ) → with_given (2 ^ k) given n ≡ bit_or n (bit_and given (2 ^ k))
  given_or given n = go (eqb (bit_at given k) 1) refl
    where
      go : (t : Bool) → eqb (bit_at given k) 1 ≡ t → with_given (2 ^ k) given n ≡ bit_or n (bit_and given (2 ^ k))
      go true e = rw (e, flag_there given e) (flag_or n)
      go false e = rw (e, flag_missing given e) (sym (or_zero_r n))

-- the three flags at one place
spread : (x g a b c : ℕ) → max (max (max x (min g a)) (min g b)) (min g c) ≡ max x (min g (max (max a b) c))
spread x g a b c = omega arith

pub flags-or : (given n : ℕ) → with_flags given n ≡ bit_or n (bit_and given 7)
flags-or given n =
    given_or 2 given (with_given 2 given (with_given 1 given n))
    ∙ ap (λ (x : ℕ). bit_or x (bit_and given 4)) (given_or 1 given (with_given 1 given n) ∙ ap (λ (x : ℕ). bit_or x (bit_and given 2)) (given_or 0 given n))
    ∙ same_from_bits _ _ joined
  where
    seven : (i : ℕ) → bit_at 7 i ≡ max (max (bit_at 1 i) (bit_at 2 i)) (bit_at 4 i)
    seven i = bit_at_or (bit_or 1 2) 4 i ∙ ap (λ (m : ℕ). max m (bit_at 4 i)) (bit_at_or 1 2 i)

    joined : (i : ℕ) → bit_at (bit_or (bit_or (bit_or n (bit_and given 1)) (bit_and given 2)) (bit_and given 4)) i ≡ bit_at (bit_or n (bit_and given 7)) i
    joined i =
        simp (bit_at_or, bit_at_and)
        (spread (bit_at n i) (bit_at given i) (bit_at 1 i) (bit_at 2 i) (bit_at 4 i)
        ∙ ap (λ (m : ℕ). max (bit_at n i) (min (bit_at given i) m)) (sym (seven i)))
