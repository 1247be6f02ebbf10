-- Byte by byte, at any width: what code loads at `at`, `at + 1`, `at + 2` .. is `field`, and what
-- it stores there is `stored`. At a width that is a literal, `loads`, `stores` and `digits` compute
-- to the code's own expressions. The last law is for a part lent to a callee.
-- Assumes nothing.
use mathlib.Core.Path.{◌≡◌, refl, ap, ◌∙◌}
use mathlib.Core.List.{List, [], ◌∷◌, ◌++◌, append_assoc, append-nil}
use Prim.Native.Nat.{ℕ, zero, suc, ◌+◌, ◌-◌, ◌/◌, ◌%◌, ◌^◌, ◌≤◌}
use native.Mathlib.Nat.{add-suc}
use native.Mathlib.Numerals.{add-one}
use native.Mathlib.Omega.{arith}
use borrow.Rule.Slice.PartMut.{put_mid}
use lib.ListN.{length, take, drop, get_or, set, length-drop, drop_of_length-le}
use lib.Seq.{drop-cons, drop-drop, take_all, take-length, sets, sets-eq}
use Rattle.model.specs.Snapshot.{big_endian, value, field}
use Rattle.laws.proofs.BigEndianLaws.{big-endian-length}
use Rattle.model.specs.Bytes.{stored}

-- ---- Loads

abbrev loads_from : ℕ → ℕ → ℕ → List ℕ → List ℕ
loads_from at k zero s = []
loads_from at k (suc w) s = get_or s (at + k) 0 ∷ loads_from at (suc k) w s

-- the w bytes at `at`, `at + 1`, `at + 2` ..
abbrev pub loads : ℕ → ℕ → List ℕ → List ℕ
loads at zero s = []
loads at (suc w) s = get_or s at 0 ∷ loads_from at 1 w s

part-loads-from : (at k w : ℕ) (s : List ℕ) → at + k + w ≤ length s → take w (drop (at + k) s) ≡ loads_from at k w s
part-loads-from at k zero s h = refl
part-loads-from at k (suc w) s h =
    rw (drop-cons s (at + k) 0 (omega arith), ← add-suc at k, part-loads-from at (suc k) w s (omega arith))

part-loads : (at w : ℕ) (s : List ℕ) → at + w ≤ length s → take w (drop at s) ≡ loads at w s
part-loads at zero s h = refl
part-loads at (suc w) s h =
    rw (drop-cons s at 0 (omega arith), ← add-one at, part-loads-from at 1 w s (omega arith))

pub field-loads : (at w : ℕ) (s : List ℕ) → at + w ≤ length s → field at w s ≡ value (loads at w s)
field-loads at w s h = ap value (part-loads at w s h)

-- ---- Stores

abbrev stores_from : ℕ → ℕ → List ℕ → List ℕ → List ℕ
stores_from at k [] s = s
stores_from at k (b ∷ bs) s = stores_from at (suc k) bs (set s (at + k) b)

-- s with a byte set at `at`, `at + 1`, `at + 2` .., in this order
abbrev pub stores : ℕ → List ℕ → List ℕ → List ℕ
stores at [] s = s
stores at (b ∷ bs) s = stores_from at 1 bs (set s at b)

stores-from-sets : (at k : ℕ) (bs s : List ℕ) → stores_from at k bs s ≡ sets s (at + k) bs
stores-from-sets at k [] s = refl
stores-from-sets at k (b ∷ bs) s = rw (stores-from-sets at (suc k) bs (set s (at + k) b), add-suc at k)

stores-sets : (at : ℕ) (bs s : List ℕ) → stores at bs s ≡ sets s at bs
stores-sets at [] s = refl
stores-sets at (b ∷ bs) s = rw (stores-from-sets at 1 bs (set s at b), add-one at)

pub stores-stored : (at : ℕ) (bs s : List ℕ) → at + length bs ≤ length s → stores at bs s ≡ stored at bs s
unfolding stored
stores-stored at bs s h = stores-sets at bs s ∙ sets-eq bs s at h ∙ append_assoc (take at s) bs (drop (at + length bs) s)

-- ---- A number's bytes

abbrev digit : ℕ → ℕ → ℕ
digit zero x = x % 256
digit (suc w) x = x / 256 ^ suc w % 256

-- the w bytes of x as code computes them, the last with no division
abbrev pub digits : ℕ → ℕ → List ℕ
digits zero x = []
digits (suc w) x = digit w x ∷ digits w x

digit-divides : (w x : ℕ) → digit w x ≡ x / 256 ^ w % 256
digit-divides zero x = omega arith
digit-divides (suc w) x = refl

digits-big-endian : (w x : ℕ) → digits w x ≡ big_endian w x
digits-big-endian zero x = refl
digits-big-endian (suc w) x = rw (digit-divides w x, digits-big-endian w x)

pub digits-stored : (at w x : ℕ) (s : List ℕ) → at + w ≤ length s → stores at (digits w x) s ≡ stored at (big_endian w x) s
digits-stored at w x s h = rw digits-big-endian (stores-stored at (big_endian w x) s (rw big-endian-length h))

-- ---- A part

-- what a callee that stores src at the front of the part from `at` on makes of the whole
pub part-stored : (at : ℕ) (src s : List ℕ) → at + length src ≤ length s
    → put_mid at (length s - at) s (take (length src) src ++ drop (length src) (take (length s - at) (drop at s))) ≡ stored at src s
unfolding stored
part-stored at src s h =
    let whole : length (drop at s) ≤ length s - at = omega (arith, length-drop at s) in
    rw (
      take-length src,
      take_all (length s - at) (drop at s) whole,
      drop_of_length-le (drop at s) whole,
      append-nil (src ++ drop (length src) (drop at s)),
      drop-drop (length src) at s,
    )

-- what a callee that puts src over the whole part from `at` on makes of the whole
pub part_copied : (at n : ℕ) (src new s : List ℕ) → new ≡ src → n ≡ length src → put_mid at n s new ≡ stored at src s
unfolding stored
part_copied at n src new s e f = rw (e, f, drop-drop (length src) at s)
