-- The laws of a snapshot's bytes: a record, and a snapshot, that was written is read back; and
-- whatever bytes the reader takes at question 12 are those that the writer makes of the nodes read.
-- So the two are inverse. Assumes nothing.
use Rattle.std.specs.Prelude.{None, Option, Some, unwrap_or}
use Rattle.std.proofs.lemmas.Option.{none-some}
use mathlib.Core.Path.{◌≡◌, refl, sym, ap, ◌∙◌}
use mathlib.Core.Logic.{◌↔◌}
use mathlib.Core.Bool.{Bool, true, false, ◌&&◌, cond, and-eq-true_iff}
use mathlib.Core.List.{List, [], ◌∷◌, ◌++◌}
use Prim.Native.Nat.{ℕ, zero, suc, ◌+◌, ◌*◌, ◌^◌, ◌≤◌, ◌<◌}
use native.Mathlib.Omega.{arith}
use lib.Dec.{eqb, leb}
use lib.ListN.{length, take, drop, length-append, length-drop, take-append-drop}
use lib.Seq.{take-append_seam, drop-append_seam, drop-drop, length-take-le}
use borrow.Author.Tests.{leb-true, eqb-true, le-leb, eq-eqb}
use Rattle.model.specs.Lists.{All}
use Rattle.model.specs.Node.{Node}
use Rattle.model.specs.Graph.{Graph, size}
use Rattle.model.specs.Snapshot.{big_endian, record_body, record_bytes, records_bytes, snapshot_body, write_snapshot, field, read_record, fits_record, before, read_records, read_snapshot}
use Rattle.laws.proofs.BigEndianLaws.{Bytes, big-endian-bytes, value-below, value-big-endian, big-endian-value}

-- ---- One record

-- each number fits the width that the record gives it
pub record FieldsFit (x : Node) : Type 0 where
  pub arc : x.arc < 256
  pub flags : x.flags < 256
  pub stack : x.stack < 256 ^ 4
  pub layer : x.layer < 256 ^ 4
  pub parent : x.parent < 256 ^ 4
  pub origin : x.origin < 256 ^ 4
  pub depth : x.depth < 256 ^ 2
  pub sibling : x.sibling < 256 ^ 2
  pub restriction : x.restriction < 256 ^ 2
  pub spec_from : x.spec_from < 256 ^ 2
  pub has_specs : x.has_specs < 256
  pub path_bytes : Bytes x.path
  pub path-named : 1 ≤ length x.path
  pub path-short : length x.path ≤ 255

pub record-length : (x : Node) → length (record_body x) ≡ 27 + length x.path
unfolding record_body
record-length x = omega arith

pub record-range : (x : Node) → FieldsFit x → (28 ≤ length (record_body x)) × (length (record_body x) ≤ 282)
record-range x h = omega (arith, record-length x)

-- by computation each field's bytes are those that `big_endian` wrote
pub written-record-read : (x : Node) → FieldsFit x → read_record (record_body x) ≡ x
unfolding record_body read_record
written-record-read x h = λ i. record {
  arc = value-big-endian 1 x.arc h.arc i;
  flags = value-big-endian 1 x.flags h.flags i;
  stack = value-big-endian 4 x.stack h.stack i;
  layer = value-big-endian 4 x.layer h.layer i;
  parent = value-big-endian 4 x.parent h.parent i;
  origin = value-big-endian 4 x.origin h.origin i;
  depth = value-big-endian 2 x.depth h.depth i;
  sibling = value-big-endian 2 x.sibling h.sibling i;
  restriction = value-big-endian 2 x.restriction h.restriction i;
  spec_from = value-big-endian 2 x.spec_from h.spec_from i;
  has_specs = value-big-endian 1 x.has_specs h.has_specs i;
  path = x.path;
}

-- ---- What is read is written

all_take : (P : ℕ → Type 0) (n : ℕ) (bs : List ℕ) → All P bs → All P (take n bs)
all_take P zero bs h = tt
all_take P (suc n) [] h = tt
all_take P (suc n) (b ∷ bs) h = (h.0, all_take P n bs h.1)

all_drop : (P : ℕ → Type 0) (n : ℕ) (bs : List ℕ) → All P bs → All P (drop n bs)
all_drop P zero bs h = h
all_drop P (suc n) [] h = tt
all_drop P (suc n) (b ∷ bs) h = all_drop P n bs h.1

bytes_drop : (n : ℕ) (bs : List ℕ) → Bytes bs → Bytes (drop n bs)
bytes_drop n bs h = all_drop (λ b. b < 256) n bs h

-- w bytes from `at` on, which the list has
module _ (at w : ℕ) (bs : List ℕ) (h : Bytes bs) (l : at + w ≤ length bs) where
  part_length : length (take w (drop at bs)) ≡ w
  part_length = length-take-le w (drop at bs) (rw length-drop (omega arith))

  part_bytes : Bytes (take w (drop at bs))
  part_bytes = all_take (λ b. b < 256) w (drop at bs) (bytes_drop at bs h)

  pub field_below : field at w bs < 256 ^ w
  field_below = rw part_length at (value-below (take w (drop at bs)) part_bytes)

  pub field-written : big_endian w (field at w bs) ≡ take w (drop at bs)
  field-written = ap (λ (n : ℕ). big_endian n (field at w bs)) (sym part_length) ∙ big-endian-value (take w (drop at bs)) part_bytes

-- the fields of the given widths from `at` on, written again, and what stands behind them
abbrev fields_from : ℕ → List ℕ → List ℕ → List ℕ
fields_from at [] bs = drop at bs
fields_from at (w ∷ ws) bs = big_endian w (field at w bs) ++ fields_from (at + w) ws bs

abbrev total : List ℕ → ℕ
total [] = 0
total (w ∷ ws) = w + total ws

fields-written : (at : ℕ) (ws bs : List ℕ) → Bytes bs → at + total ws ≤ length bs → fields_from at ws bs ≡ drop at bs
fields-written at [] bs h l = refl
fields-written at (w ∷ ws) bs h l =
    rw (field-written at w bs h (omega arith), fields-written (at + w) ws bs h (omega arith), ← drop-drop w at bs)
    (take-append-drop w (drop at bs))

pub read-record-written : (bs : List ℕ) → Bytes bs → 27 ≤ length bs → record_body (read_record bs) ≡ bs
unfolding record_body read_record
read-record-written bs h l = fields-written 0 (1 ∷ 1 ∷ 4 ∷ 4 ∷ 4 ∷ 4 ∷ 2 ∷ 2 ∷ 2 ∷ 2 ∷ 1 ∷ []) bs h l

pub read-record-fits : (bs : List ℕ) → Bytes bs → 28 ≤ length bs → length bs ≤ 282 → FieldsFit (read_record bs)
unfolding read_record
read-record-fits bs h l u = record {
  arc = field_below 0 1 bs h (omega arith);
  flags = field_below 1 1 bs h (omega arith);
  stack = field_below 2 4 bs h (omega arith);
  layer = field_below 6 4 bs h (omega arith);
  parent = field_below 10 4 bs h (omega arith);
  origin = field_below 14 4 bs h (omega arith);
  depth = field_below 18 2 bs h (omega arith);
  sibling = field_below 20 2 bs h (omega arith);
  restriction = field_below 22 2 bs h (omega arith);
  spec_from = field_below 24 2 bs h (omega arith);
  has_specs = field_below 26 1 bs h (omega arith);
  path_bytes = bytes_drop 27 bs h;
  path-named = rw length-drop (omega arith);
  path-short = rw length-drop (omega arith);
}

-- ---- The records

-- each node's fields fit
abbrev pub NodesFit : List Node → Type 0
NodesFit [] = Unit {0}
NodesFit (x ∷ xs) = FieldsFit x × NodesFit xs

-- one record written in front
module _ (x : Node) (h : FieldsFit x) (n : ℕ) (rest : List ℕ) where
  length-written : field 0 2 (record_bytes x ++ rest) ≡ length (record_body x)
  length-written = value-big-endian 2 (length (record_body x)) (omega (arith, record-range x h))

  fits-written : fits_record (record_bytes x ++ rest) ≡ true
  fits-written =
      rw (
        length-written,
        le-leb 2 (length (record_bytes x ++ rest)) (omega arith),
        le-leb 28 (length (record_body x)) (omega (arith, record-range x h)),
        le-leb (length (record_body x)) 282 (omega (arith, record-range x h)),
        le-leb (2 + length (record_body x)) (length (record_bytes x ++ rest)) (omega (arith, length-append (record_body x) rest)),
      )

  record-reads-back : read_records (suc n) (record_bytes x ++ rest) ≡ before x (read_records n rest)
  unfolding read_records
  record-reads-back =
      rw (
        fits-written,
        length-written,
        ← drop-drop (length (record_body x)) 2 (record_bytes x ++ rest),
        take-append_seam (record_body x) rest,
        written-record-read x h,
        drop-append_seam (record_body x) rest,
      )

records-read-back : (xs : List Node) → NodesFit xs → read_records (length xs) (records_bytes xs) ≡ Some xs
unfolding read_records
records-read-back [] h = refl
records-read-back (x ∷ xs) h =
    record-reads-back x h.0 (length xs) (records_bytes xs) ∙ ap (before x) (records-read-back xs h.1)

records-length : (xs : List Node) → NodesFit xs → length (records_bytes xs) ≤ 284 * length xs
records-length [] h = omega arith
records-length (x ∷ xs) h =
    simp length-append (omega (arith, record-range x h.0, records-length xs h.1))

-- ---- The snapshot

pub written-reads-back : (g : Graph) → NodesFit g.nodes → size g < 65536 → read_snapshot (write_snapshot g) ≡ Some g.nodes
unfolding read_snapshot write_snapshot
written-reads-back g h l =
    let counted : field 0 4 (write_snapshot g) ≡ length (snapshot_body g) =
    value-big-endian 4 (length (snapshot_body g)) (omega (arith, records-length g.nodes h)) in
    let sized : field 5 2 (write_snapshot g) ≡ size g = value-big-endian 2 (size g) l in
    rw (
      counted,
      sized,
      le-leb 7 (length (write_snapshot g)) (omega arith),
      eq-eqb (4 + length (snapshot_body g)) (length (write_snapshot g)) (omega arith),
    ) (records-read-back g.nodes h)

-- ---- What is written are bytes

all_append : (P : ℕ → Type 0) (xs ys : List ℕ) → All P xs → All P ys → All P (xs ++ ys)
all_append P [] ys h k = k
all_append P (x ∷ xs) ys h k = (h.0, all_append P xs ys h.1 k)

bytes-append : (xs ys : List ℕ) → Bytes xs → Bytes ys → Bytes (xs ++ ys)
bytes-append xs ys h k = all_append (λ b. b < 256) xs ys h k

-- numbers, each with its width, written before other bytes
abbrev numbers_before : List (ℕ × ℕ) → List ℕ → List ℕ
numbers_before [] bs = bs
numbers_before (f ∷ fs) bs = big_endian f.0 f.1 ++ numbers_before fs bs

numbers-bytes : (fs : List (ℕ × ℕ)) (bs : List ℕ) → Bytes bs → Bytes (numbers_before fs bs)
numbers-bytes [] bs h = h
numbers-bytes (f ∷ fs) bs h =
    bytes-append (big_endian f.0 f.1) (numbers_before fs bs) (big-endian-bytes f.0 f.1) (numbers-bytes fs bs h)

pub record-bytes : (x : Node) → Bytes x.path → Bytes (record_body x)
unfolding record_body
record-bytes x h =
    numbers-bytes
    ((1, x.arc) ∷ (1, x.flags) ∷ (4, x.stack) ∷ (4, x.layer) ∷ (4, x.parent) ∷ (4, x.origin) ∷ (2, x.depth) ∷ (2, x.sibling)
    ∷ (2, x.restriction) ∷ (2, x.spec_from) ∷ (1, x.has_specs) ∷ []) x.path h

records-bytes : (xs : List Node) → NodesFit xs → Bytes (records_bytes xs)
records-bytes [] h = tt
records-bytes (x ∷ xs) h =
    numbers-bytes ((2, length (record_body x)) ∷ []) (record_body x ++ records_bytes xs)
    (bytes-append (record_body x) (records_bytes xs) (record-bytes x h.0.path_bytes) (records-bytes xs h.1))

pub written-bytes : (g : Graph) → NodesFit g.nodes → Bytes (write_snapshot g)
unfolding write_snapshot
written-bytes g h =
    numbers-bytes ((4, length (snapshot_body g)) ∷ (1, 1) ∷ (2, size g) ∷ []) (records_bytes g.nodes) (records-bytes g.nodes h)

-- ---- What the reader takes

-- a test that guards an answer, and a record before the rest
guarded : (t : Bool) (o : Option (List Node)) (xs : List Node) → cond t o None ≡ Some xs → (t ≡ true) × (o ≡ Some xs)
guarded true o xs e = (refl, e)
guarded false o xs e = absurd (none-some xs e)

after_one : (x : Node) (o : Option (List Node)) (xs : List Node) → before x o ≡ Some xs
    → (ys : List Node) × (o ≡ Some ys) × (xs ≡ x ∷ ys)
after_one x None xs e = absurd (none-some xs e)
after_one x (Some ys) xs e = (ys, refl, cc)

pub and_first : (a b : Bool) → (a && b) ≡ true → a ≡ true
and_first a b e = ((and-eq-true_iff a b).0 e).0

pub and_second : (a b : Bool) → (a && b) ≡ true → b ≡ true
and_second a b e = ((and-eq-true_iff a b).0 e).1

-- one record read in front
module _ (bs : List ℕ) (h : Bytes bs) (fits : fits_record bs ≡ true) where
  abbrev body : List ℕ
  body = take (field 0 2 bs) (drop 2 bs)

  long : 28 ≤ field 0 2 bs
  long = leb-true 28 (field 0 2 bs) (search (and_first, and_second))

  short : field 0 2 bs ≤ 282
  short = leb-true (field 0 2 bs) 282 (search (and_first, and_second))

  within : 2 + field 0 2 bs ≤ length bs
  within = leb-true (2 + field 0 2 bs) (length bs) (search (and_first, and_second))

  body-length : length body ≡ field 0 2 bs
  body-length = part_length 2 (field 0 2 bs) bs h within

  body_bytes : Bytes body
  body_bytes = part_bytes 2 (field 0 2 bs) bs h within

  record-is-written : record_bytes (read_record body) ++ drop (2 + field 0 2 bs) bs ≡ bs
  record-is-written =
      rw (
        read-record-written body body_bytes (omega (arith, body-length, long)),
        body-length,
        ← drop-drop (field 0 2 bs) 2 bs,
        take-append-drop (field 0 2 bs) (drop 2 bs),
      ) (fields-written 0 (2 ∷ []) bs h (omega (arith, within)))

  record-fits : FieldsFit (read_record body)
  record-fits = read-record-fits body body_bytes (omega (arith, body-length, long)) (omega (arith, body-length, short))

-- the bytes are those of n records
record AreRecords (n : ℕ) (bs : List ℕ) (xs : List Node) : Type 0 where
  bytes : records_bytes xs ≡ bs
  number : length xs ≡ n
  fit : NodesFit xs

records-are-written : (n : ℕ) (bs : List ℕ) (xs : List Node) → Bytes bs → read_records n bs ≡ Some xs → AreRecords n bs xs
unfolding read_records
records-are-written zero [] xs h e = rw (ap (λ (o : Option (List Node)). unwrap_or o xs) (sym e)) (record { bytes = refl; number = refl; fit = tt })
records-are-written zero (b ∷ bs) xs h e = absurd (none-some xs e)
records-are-written (suc n) bs xs h e =
    let rest : List ℕ = drop (2 + field 0 2 bs) bs in
    let x : Node = read_record (take (field 0 2 bs) (drop 2 bs)) in
    let taken = guarded (fits_record bs) (before x (read_records n rest)) xs e in
    let split = after_one x (read_records n rest) xs taken.1 in
    let later = records-are-written n rest split.0 (bytes_drop (2 + field 0 2 bs) bs h) split.1 in
    rw split.2 (record {
      bytes = rw later.bytes (record-is-written bs h taken.0);
      number = ap suc later.number;
      fit = (record-fits bs h taken.0, later.fit);
    })

-- "Are version, count and lengths exact?"
record Exact (bs : List ℕ) (xs : List Node) : Type 0 where
  header : 7 ≤ length bs
  counted : 4 + field 0 4 bs ≡ length bs
  version : field 4 1 bs ≡ 1
  records : AreRecords (field 5 2 bs) (drop 7 bs) xs

module _ (bs : List ℕ) (xs : List Node) (h : Bytes bs) (e : read_snapshot bs ≡ Some xs) where
  exact : Exact bs xs
  unfolding read_snapshot
  exact =
      let taken = guarded (leb 7 (length bs) && (eqb (4 + field 0 4 bs) (length bs) && eqb (field 4 1 bs) 1))
      (read_records (field 5 2 bs) (drop 7 bs)) xs e in
      record {
        header = leb-true 7 (length bs) (search (and_first, and_second));
        counted = eqb-true (4 + field 0 4 bs) (length bs) (search (and_first, and_second));
        version = eqb-true (field 4 1 bs) 1 (search (and_first, and_second));
        records = records-are-written (field 5 2 bs) (drop 7 bs) xs (bytes_drop 7 bs h) taken.1;
      }

  pub read-is-written : (g : Graph) → g.nodes ≡ xs → write_snapshot g ≡ bs
  unfolding write_snapshot
  read-is-written g q =
      let behind : records_bytes g.nodes ≡ drop 7 bs = ap records_bytes q ∙ exact.records.bytes in
      let counted : length (snapshot_body g) ≡ field 0 4 bs =
      omega (arith, ap length behind, length-drop 7 bs, exact.header, exact.counted) in
      let sized : size g ≡ field 5 2 bs = ap length q ∙ exact.records.number in
      (λ i. big_endian 4 (counted i) ++ (big_endian 1 (sym exact.version i) ++ (big_endian 2 (sized i) ++ behind i)))
      ∙ fields-written 0 (4 ∷ 1 ∷ 2 ∷ []) bs h exact.header

  pub read-nodes-fit : NodesFit xs
  read-nodes-fit = exact.records.fit

  pub read-size : length xs < 65536
  read-size = omega (arith, exact.records.number, field_below 5 2 bs h exact.header)

-- bytes are read as the nodes of g exactly if they are what is written of g, and that fits
pub read-exactly-written : (bs : List ℕ) (g : Graph) → Bytes bs
    → (read_snapshot bs ≡ Some g.nodes) ↔ (NodesFit g.nodes × (size g < 65536) × (write_snapshot g ≡ bs))
read-exactly-written bs g h = (
  λ e. (read-nodes-fit bs g.nodes h e, read-size bs g.nodes h e, read-is-written bs g.nodes h e g refl),
  λ k. rw (← k.2) (written-reads-back g k.0 k.1),
)
