-- Moving the records: one record, loaded, renumbered and stored with its path, which was copied
-- aside (`path-copied`, `record-moved`); and the state of `move_records`' loop. Since a new number
-- is not above the old one, no store meets a record that has still to move. Assumes nothing.
use mathlib.Core.Path.{◌≡◌, refl, ap, ◌∙◌}
use mathlib.Core.Bool.{Bool, true}
use mathlib.Core.List.{List, ◌∷◌}
use Prim.Native.Nat.{ℕ, zero, suc, ◌+◌, ◌≤◌, ◌<◌}
use native.Mathlib.Nat.{zero-add}
use native.Mathlib.Numerals.{one-add, add-one}
use native.Mathlib.Omega.{arith}
use lib.ListN.{length, take, drop, get_or}
use borrow.Author.Tests.{eq-eqb, ne_eqb}
use Rattle.model.specs.Bytes.{stored}
use Rattle.model.specs.Graph.{Graph, size}
use Rattle.model.specs.Snapshot.{value, record_bytes}
use Rattle.model.specs.Arena.{arena_bytes, slot_at, record_length_in, node_in, site_bytes, decode}
use Rattle.model.specs.Erasing.{stays, new_number, erase}
use Rattle.laws.proofs.BigEndianLaws.{Bytes}
use Rattle.laws.proofs.StoredLaws.{length-stored, part-of-stored, drop-after-stored}
use Rattle.laws.proofs.EraseLists.{new-number-no-larger, new-number-grows}
use Rattle.arena.specs.declared.Node.{Node}
use Rattle.arena.specs.Slot.{HasSlot, HasPath, Loaded, record_stored}
use Rattle.arena.proofs.SlotLaws.{loaded-node, path-length}
use Rattle.arena.proofs.ReadNodes.{has-path}
use Rattle.erasing.specs.EraseRecords.{NumberResult, renumbered_in, node_renumbered, record_moved, sites_stored}
use Rattle.erasing.proofs.ErasedRecords.{size-kept, few, site-short, site-erased}

-- ---- One record

module _ (bs : List ℕ) (n : ℕ) (p : HasPath bs n) where
  pub path-short : length (node_in bs n).path ≤ 255
  path-short = omega (arith, path-length bs n p, p.short)

  pub path-copied : (room path after : List ℕ) → length room ≡ 255 → path ≡ (node_in bs n).path → after ≡ stored 0 (node_in bs n).path room
      → take (length path) after ≡ (node_in bs n).path
  path-copied room path after long e f =
      (λ i. take (length (e i)) (f i)) ∙ part-of-stored 0 (node_in bs n).path room (omega (arith, path-short))

  module _ (x : Node) (loaded : Loaded bs n x) where
    pub counts-path : x.record_length ≡ 27 + length (node_in bs n).path
    counts-path = loaded.record_length ∙ path-length bs n p

    pub record-moved : (numbers : List ℕ) (count to : ℕ)
        → record_stored to (renumbered_in numbers count x) (node_in bs n).path bs ≡ record_moved numbers count n to bs
    record-moved numbers count to =
        λ i. stored (slot_at to + 16)
        (loaded.prim_count i ∷ record_bytes (node_renumbered numbers count (loaded-node bs n p.numbered x loaded i))) bs

-- ---- The records of the first k nodes of a graph

module _ (h : Graph) (few : size h ≤ 1024) (short : (k : ℕ) → k < size h → length (site_bytes h k) ≤ 285) (s : List ℕ) (whole : length s ≡ arena_bytes) where
  pub sites-length : (k : ℕ) → k ≤ size h → length (sites_stored h k s) ≡ arena_bytes
  sites-length zero l = whole
  sites-length (suc k) l =
      let before = sites-length k (omega arith) in
      length-stored (slot_at k + 16) (site_bytes h k) (sites_stored h k s) (omega (arith, short k (omega arith))) ∙ before

  -- the slots from k on are as they were
  pub sites-behind : (k a : ℕ) → k ≤ size h → slot_at k ≤ a → drop a (sites_stored h k s) ≡ drop a s
  sites-behind zero a l b = refl
  sites-behind (suc k) a l b =
      let before = sites-length k (omega arith) in
      drop-after-stored (slot_at k + 16) (site_bytes h k) (sites_stored h k s) (omega (arith, short k (omega arith))) a
      (omega (arith, short k (omega arith)))
      ∙ sites-behind k a (omega arith) (omega arith)

-- ---- The loop: the kept of the first n nodes have moved

pub record Moving (bs set arena : List ℕ) (n : ℕ) : Type 0 where
  pub long : length arena ≡ length bs
  pub moved : arena ≡ sites_stored (erase set (decode bs)) (new_number (stays set) n) bs

module _ (bs set : List ℕ) (count : ℕ) (numbers : List ℕ) (bytes : Bytes bs) (ready : NumberResult bs set count numbers) where
  abbrev h : Graph
  h = erase set (decode bs)

  abbrev kept : ℕ → Bool
  kept = stays set

  module _ (arena : List ℕ) (n : ℕ) (moving : Moving bs set arena n) (more : n < count) where
    module _ (stays : get_or set n 0 ≡ 0) where
      keeps : kept n ≡ true
      keeps = eq-eqb (get_or set n 0) 0 stays

      to : get_or numbers n 0 ≡ new_number kept n
      to = ready.numbered.number n more

      low : new_number kept n < size h
      low = omega (arith, size-kept bs set count numbers bytes ready, new-number-grows kept n count keeps more)

      as_before : (a : ℕ) → slot_at n ≤ a → drop a arena ≡ drop a bs
      as_before a l =
          ap (drop a) moving.moved
          ∙ sites-behind h (few bs set count numbers bytes ready) (site-short bs set count numbers bytes ready) bs ready.opened.whole
          (new_number kept n) a (omega (arith, low)) (omega (arith, new-number-no-larger kept n))

      pub moving-path : HasPath arena n
      moving-path =
          let there = has-path bs n (record { opened = ready.opened; below = omega (arith, ready.counted) }) in
          let same : record_length_in arena n ≡ record_length_in bs n =
          ap (λ (l : List ℕ). value (take 2 l)) (as_before (slot_at n + 17) (omega arith)) in
          record {
            slot = record { whole = moving.long ∙ ready.opened.whole; within = there.slot.within };
            numbered = omega (arith, there.numbered);
            short = omega (arith, there.short);
          }

      pub moving-slot : HasSlot arena (get_or numbers n 0)
      moving-slot = record {
        whole = moving.long ∙ ready.opened.whole;
        within = omega (arith, to, low, few bs set count numbers bytes ready);
      }

      pub moving-kept : (after : List ℕ) → length after ≡ length arena → after ≡ record_moved numbers count n (get_or numbers n 0) arena
          → Moving bs set after (n + 1)
      moving-kept after same e = record {
        long = same ∙ moving.long;
        moved =
            let site = site-erased bs set count numbers bytes ready n more keeps arena as_before in
            let next : suc (new_number kept n) ≡ new_number kept (n + 1) = rw (add-one n, keeps, one-add (new_number kept n)) in
            e ∙ (λ i. stored (slot_at (to i) + 16) (site i) (moving.moved i)) ∙ ap (λ (k : ℕ). sites_stored h k bs) next;
      }

    pub moving-gone : (get_or set n 0 ≡ 0 → ⊥) → Moving bs set arena (n + 1)
    moving-gone goes = record {
      long = moving.long;
      moved =
          let same : new_number kept n ≡ new_number kept (n + 1) = rw (add-one n, ne_eqb (get_or set n 0) 0 goes, zero-add (new_number kept n)) in
          moving.moved ∙ ap (λ (k : ℕ). sites_stored h k bs) same;
    }
