-- What the writer's proofs cite: the bytes of the first records, which grow at the end by a slot's
-- record (`records-more`); that a graph's snapshot fits the lent bytes (`records-short`); and that
-- the front before the records is the snapshot (`front-records`). Assumes nothing.
use mathlib.Core.Path.{◌≡◌, refl, sym, ap, ◌∙◌}
use mathlib.Core.List.{List, [], ◌∷◌, ◌++◌, append_assoc, append-nil}
use Prim.Native.Nat.{ℕ, suc, ◌+◌, ◌*◌, ◌-◌, ◌≤◌, ◌<◌}
use native.Mathlib.Numerals.{add-one}
use native.Mathlib.Omega.{arith}
use lib.ListN.{length, take, drop, length-append, length-drop, take-append-drop}
use lib.Seq.{take-suc, take_all, take-add, drop-drop, length-take-le}
use Rattle.model.specs.Bytes.{stored}
use Rattle.model.specs.Node.{Node, no_node}
use Rattle.model.specs.Graph.{Graph, size, node_at}
use Rattle.model.specs.Refusals.{path_bytes}
use Rattle.model.specs.Snapshot.{big_endian, record_body, record_bytes, records_bytes, snapshot_body, write_snapshot}
use Rattle.model.specs.Arena.{slot_at, count_in, record_length_in, decode}
use Rattle.laws.proofs.BigEndianLaws.{Bytes}
use Rattle.laws.proofs.StoredLaws.{stored-apart, stored_next}
use Rattle.laws.proofs.SnapshotLaws.{record-length, field-written}
use Rattle.arena.specs.Slot.{HasPath}
use Rattle.arena.proofs.HeldArenas.{held}
use Rattle.arena.proofs.ArenaBack.{size-decode, body-written}
use Rattle.arena.proofs.HeldEncodable.{held-encodable}
use Rattle.snapshot.specs.Writing.{CanWrite, front_bytes}

-- ---- Records

records-append : (xs ys : List Node) → records_bytes (xs ++ ys) ≡ records_bytes xs ++ records_bytes ys
records-append [] ys = refl
records-append (x ∷ xs) ys =
    ap (λ (l : List ℕ). record_bytes x ++ l) (records-append xs ys) ∙ sym (append_assoc (record_bytes x) (records_bytes xs) (records_bytes ys))

records-length : (xs : List Node) → length (records_bytes xs) ≡ 29 * length xs + path_bytes xs
records-length [] = refl
records-length (x ∷ xs) = omega (arith, length-append (record_bytes x) (records_bytes xs), record-length x, records-length xs)

-- the first n of them
abbrev pub records_before : ℕ → List Node → List ℕ
records_before n ns = records_bytes (take n ns)

next-record : (n : ℕ) (ns : List Node) → n < length ns → records_before (suc n) ns ≡ records_before n ns ++ record_bytes (node_at ns n)
next-record n ns h =
    ap records_bytes (take-suc ns n no_node h) ∙ records-append (take n ns) (node_at ns n ∷ [])
    ∙ ap (λ (l : List ℕ). records_before n ns ++ l) (append-nil (record_bytes (node_at ns n)))

before-short : (n : ℕ) (ns : List Node) → length (records_before n ns) ≤ length (records_bytes ns)
before-short n ns =
    omega (
      arith,
      length-append (records_before n ns) (records_bytes (drop n ns)),
      ap length (sym (records-append (take n ns) (drop n ns)) ∙ ap records_bytes (take-append-drop n ns)),
    )

-- ---- The records of an arena

-- as the arena lends it
abbrev pub slot_record : List ℕ → ℕ → List ℕ
slot_record bs n = take (2 + record_length_in bs n) (drop (slot_at n + 17) bs)

module _ (bs out : List ℕ) (bytes : Bytes bs) (can : CanWrite bs out) where
  abbrev nodes : List Node
  nodes = (decode bs).nodes

  pub counted : count_in bs ≡ length nodes
  counted = sym (size-decode bs (held bs can.opened.holds))

  pub few : length nodes ≤ 1024
  few = (held-encodable bs bytes can.opened.whole can.opened.holds).legal.few-nodes

  -- at most 1,024 records with 32,768 bytes of paths
  records-short : (n : ℕ) → length (records_before n nodes) ≤ 62464
  records-short n =
      omega (arith, before-short n nodes, records-length nodes, few, (held-encodable bs bytes can.opened.whole can.opened.holds).legal.few-path-bytes)

  all-before : records_before (count_in bs) nodes ≡ records_bytes nodes
  all-before = ap records_bytes (take_all (count_in bs) nodes (omega (arith, counted)))

  pub snapshot-short : 7 + length (records_bytes nodes) ≤ 62471
  snapshot-short = omega (arith, ap length all-before, records-short (count_in bs))

  module _ (n : ℕ) (h : n < count_in bs) where
    pub has-record : HasPath bs n
    has-record =
        let node = (held bs can.opened.holds).node n h in
        record {
          slot = record { whole = can.opened.whole; within = omega (arith, (held bs can.opened.holds).few) };
          numbered = omega arith;
          short = node.record-short;
        }

    slot-record : record_bytes (node_at nodes n) ≡ slot_record bs n
    slot-record =
        let node = (held bs can.opened.holds).node n h in
        let body = take (record_length_in bs n) (drop (slot_at n + 19) bs) in
        let written : record_body (node_at nodes n) ≡ body = body-written bs bytes can.opened.whole (held bs can.opened.holds) n h in
        let long : length body ≡ record_length_in bs n =
        length-take-le (record_length_in bs n) (drop (slot_at n + 19) bs)
        (rw length-drop (omega (arith, can.opened.whole, (held bs can.opened.holds).few, node.record-short))) in
        let next : slot_at n + 19 ≡ slot_at n + 17 + 2 = omega arith in
        let behind : drop (slot_at n + 19) bs ≡ drop 2 (drop (slot_at n + 17) bs) =
        ap (λ (k : ℕ). drop k bs) next ∙ sym (drop-drop 2 (slot_at n + 17) bs) in
        ap (λ (b : List ℕ). big_endian 2 (length b) ++ b) written
        ∙ ap (λ (k : ℕ). big_endian 2 k ++ body) long
        ∙ ap (λ (l : List ℕ). l ++ body) (field-written (slot_at n + 17) 2 bs bytes (omega (arith, can.opened.whole, (held bs can.opened.holds).few)))
        ∙ ap (λ (l : List ℕ). take 2 (drop (slot_at n + 17) bs) ++ take (record_length_in bs n) l) behind
        ∙ sym (take-add 2 (record_length_in bs n) (drop (slot_at n + 17) bs))

    records-more : records_before (suc n) nodes ≡ records_before n nodes ++ slot_record bs n
    records-more = next-record n nodes (omega (arith, counted)) ∙ ap (λ (l : List ℕ). records_before n nodes ++ l) slot-record

-- ---- The loop that copies

-- n records are copied, and end at `at`
pub record Copied (bs before after : List ℕ) (at n : ℕ) : Type 0 where
  pub place : at ≡ 7 + length (records_before n (decode bs).nodes)
  pub bytes : after ≡ stored 7 (records_before n (decode bs).nodes) before

module _ (bs out : List ℕ) (bytes : Bytes bs) (can : CanWrite bs out) where
  pub copied_none : Copied bs out out 7 0
  unfolding stored
  copied_none = record { place = refl; bytes = sym (take-append-drop 7 out) }

  module _ (after : List ℕ) (at n : ℕ) (copied : Copied bs out after at n) where
    pub copied_all : n ≡ count_in bs
        → (at ≡ 7 + length (records_bytes (decode bs).nodes)) × (after ≡ stored 7 (records_bytes (decode bs).nodes) out)
    copied_all all =
        let same : records_before n (decode bs).nodes ≡ records_bytes (decode bs).nodes =
        ap (λ (k : ℕ). records_before k (decode bs).nodes) all ∙ all-before bs out bytes can in
        (omega (arith, copied.place, ap length same), copied.bytes ∙ ap (λ (l : List ℕ). stored 7 l out) same)

    -- the next record, as the arena lends it
    module _ (h : n < count_in bs) (piece : List ℕ) (e : piece ≡ slot_record bs n) where
      more : records_before (n + 1) (decode bs).nodes ≡ records_before n (decode bs).nodes ++ piece
      more =
          ap (λ (k : ℕ). records_before k (decode bs).nodes) (add-one n) ∙ records-more bs out bytes can n h
          ∙ ap (λ (l : List ℕ). records_before n (decode bs).nodes ++ l) (sym e)

      more-length : length (records_before (n + 1) (decode bs).nodes) ≡ length (records_before n (decode bs).nodes) + length piece
      more-length = ap length more ∙ length-append (records_before n (decode bs).nodes) piece

      pub piece-fits : at + length piece ≤ 62471
      piece-fits = omega (arith, copied.place, more-length, records-short bs out bytes can (n + 1))

      pub copied_more : (next : List ℕ) → next ≡ stored at piece after → Copied bs out next (at + length piece) (n + 1)
      copied_more next q = record {
        place = omega (arith, copied.place, more-length);
        bytes =
            q ∙ ap (λ (k : ℕ). stored k piece after) copied.place
            ∙ ap (stored (7 + length (records_before n (decode bs).nodes)) piece) copied.bytes
            ∙ stored_next 7 (records_before n (decode bs).nodes) piece out (omega (arith, can.large, copied.place, piece-fits))
            ∙ ap (λ (l : List ℕ). stored 7 l out) (sym more);
      }

-- ---- The front

pub front-stored : (following count : ℕ) (out : List ℕ) → 7 ≤ length out
    → stored 5 (big_endian 2 count) (stored 4 (big_endian 1 1) (stored 0 (big_endian 4 following) out)) ≡ stored 0 (front_bytes following count) out
front-stored following count out h =
    ap (stored 5 (big_endian 2 count)) (stored_next 0 (big_endian 4 following) (1 ∷ []) out (omega arith))
    ∙ stored_next 0 (big_endian 4 following ++ (1 ∷ [])) (big_endian 2 count) out (omega arith)

-- front and records, stored apart, are the snapshot
front-records : (g : Graph) (out : List ℕ) → 7 + length (records_bytes g.nodes) ≤ length out
    → stored 0 (front_bytes (3 + length (records_bytes g.nodes)) (size g)) (stored 7 (records_bytes g.nodes) out)
    ≡ stored 0 (write_snapshot g) out
unfolding write_snapshot
front-records g out h =
    let front = front_bytes (3 + length (records_bytes g.nodes)) (size g) in
    sym (stored-apart 0 front 7 (records_bytes g.nodes) out (omega arith) (omega arith))
    ∙ stored_next 0 front (records_bytes g.nodes) out (omega arith)
    ∙ ap (λ (k : ℕ). stored 0 (big_endian 4 k ++ snapshot_body g) out) (omega arith)

-- as the writer stores them
pub snapshot-stored : (bs out : List ℕ) → Bytes bs → CanWrite bs out → (end count : ℕ) (middle after : List ℕ)
    → end ≡ 7 + length (records_bytes (decode bs).nodes) → middle ≡ stored 7 (records_bytes (decode bs).nodes) out → count ≡ count_in bs
    → after ≡ stored 0 (front_bytes (end - 4) count) middle → after ≡ stored 0 (write_snapshot (decode bs)) out
snapshot-stored bs out bytes can end count middle after e records sized front =
    let following : end - 4 ≡ 3 + length (records_bytes (decode bs).nodes) = omega arith in
    front ∙ ap (stored 0 (front_bytes (end - 4) count)) records
    ∙ ap (λ (k : ℕ). stored 0 (front_bytes k count) (stored 7 (records_bytes (decode bs).nodes) out)) following
    ∙ ap (λ (k : ℕ). stored 0 (front_bytes (3 + length (records_bytes (decode bs).nodes)) k) (stored 7 (records_bytes (decode bs).nodes) out))
    (sized ∙ counted bs out bytes can)
    ∙ front-records (decode bs) out (omega (arith, can.large, snapshot-short bs out bytes can))

pub snapshot-length : (g : Graph) → length (write_snapshot g) ≡ 7 + length (records_bytes g.nodes)
unfolding write_snapshot
snapshot-length g = omega arith
