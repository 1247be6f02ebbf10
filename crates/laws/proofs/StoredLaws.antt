-- The laws of `stored`, each at any width and place: what was stored is read, the rest is as it
-- was, how two stores meet, and bytes stay bytes. `before`, `in` and `after` in a name: the part,
-- field or byte asked for lies before the stored bytes, in them, or after them. Assumes nothing.
use mathlib.Core.Path.{◌≡◌, refl, sym, ap, ◌∙◌}
use mathlib.Core.List.{List, [], ◌∷◌, ◌++◌, append_assoc}
use Prim.Native.Nat.{ℕ, zero, suc, ◌+◌, ◌-◌, ◌^◌, ◌≤◌, ◌<◌}
use native.Mathlib.Nat.{add-zero}
use native.Mathlib.Omega.{arith}
use lib.ListN.{length, take, drop, get_or, length-append, length-drop, take-append-drop}
use lib.Seq.{length-take-le, take-take, take_at, drop_at, drop-drop, take-append-le, drop-append-le, get_or-take, get_or-drop}
use Rattle.model.specs.Snapshot.{big_endian, value, field}
use Rattle.laws.proofs.BigEndianLaws.{Bytes, big-endian-length, value-big-endian, big-endian-value}
use Rattle.model.specs.Bytes.{stored}

-- ---- Lists

-- a part that lies in the first of two lists
part-append : (a w : ℕ) (p q : List ℕ) → a + w ≤ length p → take w (drop a (p ++ q)) ≡ take w (drop a p)
part-append a w p q h = rw (drop-append-le a p q (omega arith), take-append-le w (drop a p) q (rw length-drop (omega arith)))

-- a byte is the first of the part from its place on
pub byte-part : (i : ℕ) (s : List ℕ) → get_or s i 0 ≡ get_or (take 1 (drop i s)) 0 0
byte-part i s = sym (get_or-take 1 (drop i s) 0 0 (omega arith) ∙ get_or-drop i s 0 0 ∙ ap (λ (n : ℕ). get_or s n 0) (add-zero i))

take_rest : (w : ℕ) (s : List ℕ) → take w s ++ drop (length (take w s)) s ≡ s
take_rest zero s = refl
take_rest (suc w) [] = refl
take_rest (suc w) (x ∷ s) = ap (λ (l : List ℕ). x ∷ l) (take_rest w s)

-- ---- One store

module _ (at : ℕ) (bs s : List ℕ) (fits : at + length bs ≤ length s) where
  before-length : length (take at s) ≡ at
  before-length = length-take-le at s (omega arith)

  front_length : length (take at s ++ bs) ≡ at + length bs
  front_length = length-append (take at s) bs ∙ ap (λ (n : ℕ). n + length bs) before-length

  front_rest : stored at bs s ≡ (take at s ++ bs) ++ drop (at + length bs) s
  unfolding stored
  front_rest = sym (append_assoc (take at s) bs (drop (at + length bs) s))

  drop-to-stored : drop at (stored at bs s) ≡ bs ++ drop (at + length bs) s
  unfolding stored
  drop-to-stored = drop_at (take at s) (bs ++ drop (at + length bs) s) at before-length

  pub length-stored : length (stored at bs s) ≡ length s
  length-stored =
      ap length front_rest ∙ length-append (take at s ++ bs) (drop (at + length bs) s)
      ∙ omega (arith, front_length, length-drop (at + length bs) s)

  -- what was stored is read, whole
  pub part-of-stored : take (length bs) (drop at (stored at bs s)) ≡ bs
  part-of-stored = ap (take (length bs)) drop-to-stored ∙ take_at bs (drop (at + length bs) s) (length bs) refl

  -- and in part, by its place a in bs
  pub part-in-stored : (a w : ℕ) → a + w ≤ length bs → take w (drop (at + a) (stored at bs s)) ≡ take w (drop a bs)
  part-in-stored a w h =
      ap (take w) (sym (drop-drop a at (stored at bs s)) ∙ ap (drop a) drop-to-stored) ∙ part-append a w bs (drop (at + length bs) s) h

  pub field-in-stored : (a w : ℕ) → a + w ≤ length bs → field (at + a) w (stored at bs s) ≡ field a w bs
  field-in-stored a w h = ap value (part-in-stored a w h)

  pub byte-in-stored : (i : ℕ) → i < length bs → get_or (stored at bs s) (at + i) 0 ≡ get_or bs i 0
  byte-in-stored i h = rw (byte-part i bs, byte-part (at + i) (stored at bs s), part-in-stored i 1 (omega arith))

  -- nothing else changes
  pub take-before-stored : (n : ℕ) → n ≤ at → take n (stored at bs s) ≡ take n s
  unfolding stored
  take-before-stored n h =
      take-append-le n (take at s) (bs ++ drop (at + length bs) s) (rw before-length h) ∙ take-take n at s h

  pub drop-after-stored : (n : ℕ) → at + length bs ≤ n → drop n (stored at bs s) ≡ drop n s
  drop-after-stored n h =
      let end = at + length bs in
      let past : n ≡ end + (n - end) = omega arith in
      let same : drop end (stored at bs s) ≡ drop end s = ap (drop end) front_rest ∙ drop_at (take at s ++ bs) (drop end s) end front_length in
      ap (λ (m : ℕ). drop m (stored at bs s)) past ∙ sym (drop-drop (n - end) end (stored at bs s)) ∙ ap (drop (n - end)) same
      ∙ drop-drop (n - end) end s ∙ ap (λ (m : ℕ). drop m s) (sym past)

  pub part-before-stored : (a w : ℕ) → a + w ≤ at → take w (drop a (stored at bs s)) ≡ take w (drop a s)
  unfolding stored
  part-before-stored a w h =
      let within : a + w ≤ length (take at s) = rw before-length h in
      part-append a w (take at s) (bs ++ drop (at + length bs) s) within ∙ sym (part-append a w (take at s) (drop at s) within)
      ∙ ap (λ (l : List ℕ). take w (drop a l)) (take-append-drop at s)

  pub part-after-stored : (a w : ℕ) → at + length bs ≤ a → take w (drop a (stored at bs s)) ≡ take w (drop a s)
  part-after-stored a w h = ap (take w) (drop-after-stored a h)

  pub field-before-stored : (a w : ℕ) → a + w ≤ at → field a w (stored at bs s) ≡ field a w s
  field-before-stored a w h = ap value (part-before-stored a w h)

  pub field-after-stored : (a w : ℕ) → at + length bs ≤ a → field a w (stored at bs s) ≡ field a w s
  field-after-stored a w h = ap value (part-after-stored a w h)

  pub byte-before-stored : (i : ℕ) → i < at → get_or (stored at bs s) i 0 ≡ get_or s i 0
  byte-before-stored i h = rw (byte-part i s, byte-part i (stored at bs s), part-before-stored i 1 (omega arith))

  pub byte-after-stored : (i : ℕ) → at + length bs ≤ i → get_or (stored at bs s) i 0 ≡ get_or s i 0
  byte-after-stored i h = rw (byte-part i s, byte-part i (stored at bs s), part-after-stored i 1 h)

-- ---- A number stored is the number read

pub field-of-stored : (at w n : ℕ) (s : List ℕ) → at + w ≤ length s → n < 256 ^ w → field at w (stored at (big_endian w n) s) ≡ n
field-of-stored at w n s fits h =
    let e : length (big_endian w n) ≡ w = big-endian-length w n in
    ap (λ (k : ℕ). field at k (stored at (big_endian w n) s)) (sym e)
    ∙ ap value (part-of-stored at (big_endian w n) s (rw e fits)) ∙ value-big-endian w n h

-- ---- Bytes stored in bytes are bytes

bytes-append : (xs ys : List ℕ) → Bytes xs → Bytes ys → Bytes (xs ++ ys)
bytes-append [] ys h k = k
bytes-append (x ∷ xs) ys h k = (h.0, bytes-append xs ys h.1 k)

pub bytes_take : (n : ℕ) (s : List ℕ) → Bytes s → Bytes (take n s)
bytes_take zero s h = tt
bytes_take (suc n) [] h = tt
bytes_take (suc n) (x ∷ s) h = (h.0, bytes_take n s h.1)

pub bytes_drop : (n : ℕ) (s : List ℕ) → Bytes s → Bytes (drop n s)
bytes_drop zero s h = h
bytes_drop (suc n) [] h = tt
bytes_drop (suc n) (x ∷ s) h = bytes_drop n s h.1

pub bytes-stored : (at : ℕ) (bs s : List ℕ) → Bytes bs → Bytes s → Bytes (stored at bs s)
unfolding stored
bytes-stored at bs s h k =
    bytes-append (take at s) _ (bytes_take at s k) (bytes-append bs _ h (bytes_drop (at + length bs) s k))

-- what the kit says of a lent slice, as `Bytes`, and back
pub bytes-by-place : (s : List ℕ) → ((i : ℕ) → get_or s i 0 < 256) → Bytes s
bytes-by-place [] h = tt
bytes-by-place (x ∷ s) h = (h zero, bytes-by-place s (λ i. h (suc i)))

pub byte-at-place : (s : List ℕ) → Bytes s → (i : ℕ) → get_or s i 0 < 256
byte-at-place [] h i = omega arith
byte-at-place (x ∷ s) h zero = h.0
byte-at-place (x ∷ s) h (suc i) = byte-at-place s h.1 i

-- ---- Storing what is there changes nothing

pub stored-part-same : (at w : ℕ) (s : List ℕ) → stored at (take w (drop at s)) s ≡ s
unfolding stored
stored-part-same at w s =
    rw (← drop-drop (length (take w (drop at s))) at s, take_rest w (drop at s), take-append-drop at s)

pub stored_there : (at w : ℕ) (p s : List ℕ) → take w (drop at s) ≡ p → stored at p s ≡ s
stored_there at w p s e = ap (λ (q : List ℕ). stored at q s) (sym e) ∙ stored-part-same at w s

-- in bytes, storing the number that is there changes nothing
pub stored-field-same : (at w : ℕ) (s : List ℕ) → Bytes s → at + w ≤ length s → stored at (big_endian w (field at w s)) s ≡ s
stored-field-same at w s h fits =
    let part = take w (drop at s) in
    let e : length part ≡ w = length-take-le w (drop at s) (rw length-drop (omega arith)) in
    let digits : big_endian w (field at w s) ≡ part =
    ap (λ (k : ℕ). big_endian k (value part)) (sym e) ∙ big-endian-value part (bytes_take w (drop at s) (bytes_drop at s h)) in
    ap (λ (bs : List ℕ). stored at bs s) digits ∙ stored-part-same at w s

-- ---- Two stores

-- a store in the first of two lists
stored-append : (at : ℕ) (bs s r : List ℕ) → at + length bs ≤ length s → stored at bs (s ++ r) ≡ stored at bs s ++ r
unfolding stored
stored-append at bs s r h = rw (take-append-le at s r (omega arith), drop-append-le (at + length bs) s r h) (simp append_assoc)

take-stored : (at : ℕ) (bs s : List ℕ) (n : ℕ) → at + length bs ≤ n → n ≤ length s → take n (stored at bs s) ≡ stored at bs (take n s)
take-stored at bs s n h fits =
    let short : length (take n s) ≡ n = length-take-le n s fits in
    let within : at + length bs ≤ length (take n s) = rw short h in
    ap (λ (l : List ℕ). take n (stored at bs l)) (sym (take-append-drop n s))
    ∙ ap (take n) (stored-append at bs (take n s) (drop n s) within)
    ∙ take_at (stored at bs (take n s)) (drop n s) n (length-stored at bs (take n s) within ∙ short)

-- at places apart: in either order
pub stored-apart : (at : ℕ) (bs : List ℕ) (a : ℕ) (cs s : List ℕ) → at + length bs ≤ a → a + length cs ≤ length s
    → stored a cs (stored at bs s) ≡ stored at bs (stored a cs s)
unfolding stored
stored-apart at bs a cs s h fits =
    let end = a + length cs in
    ap (λ (l : List ℕ). l ++ (cs ++ drop end (stored at bs s))) (take-stored at bs s a h (omega arith))
    ∙ ap (λ (l : List ℕ). stored at bs (take a s) ++ (cs ++ l)) (drop-after-stored at bs s (omega arith) end (omega arith))
    ∙ sym (stored-append at bs (take a s) (cs ++ drop end s) (rw (length-take-le a s (omega arith)) h))

-- one after the other: both at once
pub stored_next : (at : ℕ) (xs ys s : List ℕ) → at + length xs + length ys ≤ length s
    → stored (at + length xs) ys (stored at xs s) ≡ stored at (xs ++ ys) s
unfolding stored
stored_next at xs ys s fits =
    let mid = at + length xs in
    let within : mid ≤ length s = omega arith in
    let front : take mid (stored at xs s) ≡ take at s ++ xs =
    ap (take mid) (front_rest at xs s within) ∙ take_at (take at s ++ xs) (drop mid s) mid (front_length at xs s within) in
    let end : at + length (xs ++ ys) ≡ mid + length ys = omega (arith, length-append xs ys) in
    ap (λ (l : List ℕ). l ++ (ys ++ drop (mid + length ys) (stored at xs s))) front
    ∙ ap (λ (l : List ℕ). (take at s ++ xs) ++ (ys ++ l)) (drop-after-stored at xs s within (mid + length ys) (omega arith))
    ∙ rw end (simp append_assoc)

-- at one place: the second, where it covers the first
pub stored-again : (at : ℕ) (bs cs s : List ℕ) → length bs ≤ length cs → at + length cs ≤ length s
    → stored at cs (stored at bs s) ≡ stored at cs s
unfolding stored
stored-again at bs cs s h fits =
    let end = at + length cs in
    ap (λ (l : List ℕ). l ++ (cs ++ drop end (stored at bs s))) (take-before-stored at bs s (omega arith) at (omega arith))
    ∙ ap (λ (l : List ℕ). take at s ++ (cs ++ l)) (drop-after-stored at bs s (omega arith) end (omega arith))

-- ---- Bytes that are there but in the middle, between the places `mid` and `end`

pub stored-middle : (at mid end : ℕ) (a m b s : List ℕ) → mid ≡ at + length a → end ≡ mid + length m
    → end + length b ≤ length s → take (length a) (drop at s) ≡ a → take (length b) (drop end s) ≡ b
    → stored at (a ++ (m ++ b)) s ≡ stored mid m s
stored-middle at mid end a m b s e d fits front back =
    sym (stored_next at a (m ++ b) s (omega (arith, length-append m b)))
    ∙ (λ i. stored (sym e i) (m ++ b) (stored_there at (length a) a s front i))
    ∙ sym (stored_next mid m b s (omega arith)) ∙ ap (λ (k : ℕ). stored k b (stored mid m s)) (sym d)
    ∙ stored_there end (length b) b (stored mid m s)
    (part-after-stored mid m s (omega arith) end (length b) (omega arith) ∙ back)
