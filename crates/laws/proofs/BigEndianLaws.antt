-- The laws of big-endian numbers, each at any width: `big_endian w` writes w bytes, `value` reads
-- them, and the two are inverse, for a number below 256 ^ w and for bytes each below 256. Assumes
-- nothing.
use mathlib.Core.Path.{◌≡◌, refl, ap}
use mathlib.Core.List.{List, [], ◌∷◌}
use Prim.Native.Nat.{ℕ, zero, suc, ◌+◌, ◌*◌, ◌/◌, ◌%◌, ◌^◌, ◌≤◌, ◌<◌}
use native.Mathlib.Nat.{pow-succ', one-le-pow, mod-lt, mod-eq_of_lt, mul-le-mul_right}
use native.Mathlib.Omega.{arith}
use lib.Arith.{digits_div, digits_mod, mod-mul}
use lib.ListN.{length}
use Rattle.model.specs.Lists.{All}
use Rattle.model.specs.Snapshot.{big_endian, value_from, value}

-- each element is a byte
abbrev pub Bytes : List ℕ → Type 0
Bytes bs = All (λ b. b < 256) bs

-- ---- Writing

pub big-endian-length : (w n : ℕ) → length (big_endian w n) ≡ w
big-endian-length zero n = refl
big-endian-length (suc w) n = ap suc (big-endian-length w n)

pub big-endian-bytes : (w n : ℕ) → Bytes (big_endian w n)
big-endian-bytes zero n = tt
big-endian-bytes (suc w) n = (mod-lt (n / 256 ^ w) (omega arith), big-endian-bytes w n)

-- ---- Reading, m being what the bytes before have come to

pub value-from-splits : (m : ℕ) (bs : List ℕ) → value_from m bs ≡ m * 256 ^ length bs + value bs
value-from-splits m [] = omega arith
value-from-splits m (b ∷ bs) =
    rw pow-succ' (omega (arith, value-from-splits (m * 256 + b) bs, value-from-splits (0 * 256 + b) bs))

value-from-below : (m : ℕ) (bs : List ℕ) → Bytes bs → value_from m bs < suc m * 256 ^ length bs
value-from-below m [] h = omega arith
value-from-below m (b ∷ bs) h =
    let step : suc (m * 256 + b) * 256 ^ length bs ≤ (suc m * 256) * 256 ^ length bs = mul-le-mul_right (256 ^ length bs) (omega arith) in
    rw pow-succ' (omega (arith, value-from-below (m * 256 + b) bs h.1))

pub value-below : (bs : List ℕ) → Bytes bs → value bs < 256 ^ length bs
value-below bs h = omega (arith, value-from-below 0 bs h)

-- ---- What was written is read

value-from-big-endian : (m w n : ℕ) → value_from m (big_endian w n) ≡ m * 256 ^ w + n % 256 ^ w
value-from-big-endian m zero n = omega arith
value-from-big-endian m (suc w) n =
    let digit : n % (256 * 256 ^ w) ≡ n / 256 ^ w % 256 * 256 ^ w + n % 256 ^ w = mod-mul n (omega arith) (one-le-pow w 256 (omega arith)) in
    rw pow-succ' (omega (arith, value-from-big-endian (m * 256 + n / 256 ^ w % 256) w n))

pub value-big-endian : (w n : ℕ) → n < 256 ^ w → value (big_endian w n) ≡ n
value-big-endian w n h = omega (arith, value-from-big-endian 0 w n, mod-eq_of_lt h)

-- ---- What was read is written

big-endian-value-from : (m : ℕ) (bs : List ℕ) → Bytes bs → big_endian (length bs) (value_from m bs) ≡ bs
big-endian-value-from m [] h = refl
big-endian-value-from m (b ∷ bs) h =
    let digit : value_from (m * 256 + b) bs / 256 ^ length bs ≡ m * 256 + b =
    rw value-from-splits (digits_div (m * 256 + b) (value-below bs h.1)) in
    rw (digit, digits_mod m {m = 256} h.0, big-endian-value-from (m * 256 + b) bs h.1)

pub big-endian-value : (bs : List ℕ) → Bytes bs → big_endian (length bs) (value bs) ≡ bs
big-endian-value bs h = big-endian-value-from 0 bs h
