-- What erasing stores is the encoding of the erased graph: `erased-encoded`. Stores that share no
-- byte may come in any order, so records first, then links, order and header leave what `encode`
-- leaves; the marks are there. Assumes nothing.
use mathlib.Core.Path.{◌≡◌, refl, sym, ap, subst, ◌∙◌}
use mathlib.Core.Logic.{inl, inr}
use mathlib.Core.List.{List, [], ◌∷◌}
use Prim.Native.Nat.{ℕ, zero, suc, ◌+◌, ◌≤◌, ◌<◌}
use native.Mathlib.Omega.{arith}
use lib.ListN.{length}
use lib.Seq.{slice, length-take-le}
use borrow.Author.Tests.{ne_eqb}
use Rattle.model.specs.Bytes.{stored}
use Rattle.model.specs.Lists.{bit}
use Rattle.model.specs.Graph.{Graph, size, children_of}
use Rattle.model.specs.Snapshot.{big_endian}
use Rattle.model.specs.Arena.{arena_bytes, slot_at, local_root_in, link_bytes, site_bytes, slot_stored, slots_stored, order_stored, header_bytes, root_stored, decode, encode}
use Rattle.model.specs.Erasing.{stays, new_number, erase_by, erase}
use Rattle.laws.proofs.BigEndianLaws.{Bytes}
use Rattle.laws.proofs.StoredLaws.{length-stored, part-after-stored, stored_there, stored-apart, stored_next}
use Rattle.arena.specs.Header.{count_stored, local_root_stored}
use Rattle.arena.proofs.ArenaParts.{Apart}
use Rattle.arena.proofs.EncodeSteps.{held-parts}
use Rattle.child_lists.specs.Links.{Segments, Linked, links_written}
use Rattle.child_lists.proofs.LinkStores.{links_of, links-length, links-right}
use Rattle.erasing.specs.EraseRecords.{NumberResult, new_link_in, sites_stored}
use Rattle.erasing.proofs.ErasedRecords.{size-kept, few, site-short}
use Rattle.erasing.proofs.MoveLaws.{sites-length}
use Rattle.erasing.specs.EraseNodes.{LinksFound}
use Rattle.erasing.proofs.ErasedGraphs.{some-kept, linkable, root-erased}

-- ---- Stores in another order

stored-swap : (a : ℕ) (p : List ℕ) (b : ℕ) (q s : List ℕ) → Apart a (length p) b (length q) → a + length p ≤ length s → b + length q ≤ length s
    → stored a p (stored b q s) ≡ stored b q (stored a p s)
stored-swap a p b q s (inl l) fits also-fits = sym (stored-apart a p b q s l also-fits)
stored-swap a p b q s (inr l) fits also-fits = stored-apart b q a p s l fits

-- a store in the header, and the order
order-past : (a : ℕ) (p ns : List ℕ) (at : ℕ) (s : List ℕ) → a + length p ≤ 64 → length s ≡ arena_bytes → at + length ns ≤ 1024
    → stored a p (order_stored ns at s) ≡ order_stored ns at (stored a p s)
order-past a p [] at s front whole fits = refl
order-past a p (n ∷ ns) at s front whole fits =
    let entry = big_endian 4 n in
    order-past a p ns (suc at) (stored (slot_at at + 12) entry s) front (length-stored (slot_at at + 12) entry s (omega arith) ∙ whole) (omega arith)
    ∙ ap (order_stored ns (suc at)) (stored-swap a p (slot_at at + 12) entry s (inl (omega arith)) (omega arith) (omega arith))

module _ (h : Graph) (few : size h ≤ 1024) (short : (k : ℕ) → k < size h → length (site_bytes h k) ≤ 285) where
  -- a store apart from the links, and these
  links-past : (a : ℕ) (p : List ℕ) (k : ℕ) (s : List ℕ) → ((j : ℕ) → j < k → Apart a (length p) (slot_at j) 12) → k ≤ size h → length s ≡ arena_bytes
      → a + length p ≤ arena_bytes → stored a p (links_of h k s) ≡ links_of h k (stored a p s)
  links-past a p zero s apart l whole fits = refl
  links-past a p (suc k) s apart l whole fits =
      let long = links-length h k s (omega arith) whole in
      stored-swap a p (slot_at k) (link_bytes h k) (links_of h k s) (apart k (omega arith)) (omega arith) (omega arith)
      ∙ ap (stored (slot_at k) (link_bytes h k)) (links-past a p k s (λ j q. apart j (omega arith)) (omega arith) whole fits)

  -- a store in the header, and the records
  sites-past : (a : ℕ) (p : List ℕ) (k : ℕ) (s : List ℕ) → a + length p ≤ 64 → k ≤ size h → length s ≡ arena_bytes
      → stored a p (sites_stored h k s) ≡ sites_stored h k (stored a p s)
  sites-past a p zero s front l whole = refl
  sites-past a p (suc k) s front l whole =
      let long = sites-length h few short s whole k (omega arith) in
      stored-swap a p (slot_at k + 16) (site_bytes h k) (sites_stored h k s) (inl (omega arith)) (omega arith) (omega (arith, short k (omega arith)))
      ∙ ap (stored (slot_at k + 16) (site_bytes h k)) (sites-past a p k s front (omega arith) whole)

  -- each slot's links and record at once, or all records before all links
  slots-parted : (k : ℕ) (s : List ℕ) → k ≤ size h → length s ≡ arena_bytes → slots_stored h k s ≡ links_of h k (sites_stored h k s)
  slots-parted zero s l whole = refl
  slots-parted (suc k) s l whole =
      let sites = sites_stored h k s in
      let long = sites-length h few short s whole k (omega arith) in
      let linked = links-length h k sites (omega arith) long in
      let fits = short k (omega arith) in
      ap (slot_stored h k) (slots-parted k s (omega arith) whole)
      ∙ stored-apart (slot_at k) (link_bytes h k) (slot_at k + 16) (site_bytes h k) (links_of h k sites) (omega arith) (omega arith)
      ∙ ap (stored (slot_at k) (link_bytes h k))
      (links-past (slot_at k + 16) (site_bytes h k) k sites (λ j q. inr (omega arith)) (omega arith) long (omega arith))

  -- ---- A header's field stored last

  module _ (a : ℕ) (p s : List ℕ) (front : a + length p ≤ 64) (whole : length s ≡ arena_bytes) (listed : length h.order ≤ 1024) where
    header-past : stored a p (order_stored h.order 0 (links_of h (size h) (sites_stored h (size h) s)))
        ≡ order_stored h.order 0 (links_of h (size h) (sites_stored h (size h) (stored a p s)))
    header-past =
        let sites = sites_stored h (size h) s in
        let long = sites-length h few short s whole (size h) (omega arith) in
        order-past a p h.order 0 (links_of h (size h) sites) front (links-length h (size h) sites few long) (omega arith)
        ∙ ap (order_stored h.order 0) (links-past a p (size h) sites (λ j q. inl (omega arith)) (omega arith) long (omega arith))
        ∙ ap (λ (t : List ℕ). order_stored h.order 0 (links_of h (size h) t)) (sites-past a p (size h) s front (omega arith) whole)

-- ---- The erased graph

module _ (bs set : List ℕ) (count : ℕ) (numbers : List ℕ) (bytes : Bytes bs) (ready : NumberResult bs set count numbers) where
  abbrev g : Graph
  g = decode bs

  abbrev h : Graph
  h = erase set g

  whole : length bs ≡ arena_bytes
  whole = ready.opened.whole

  -- the marks are there
  header-there : stored 0 (header_bytes h) bs ≡ count_stored (size h) bs
  unfolding erase_by
  header-there =
      let marks = bit g.ordered ∷ bit g.finalized ∷ bit g.shallow ∷ [] in
      let counted = big_endian 4 (size h) in
      sym (stored_next 0 counted marks bs (omega (arith, whole)))
      ∙ stored_there 4 3 marks (count_stored (size h) bs)
      (part-after-stored 0 counted bs (omega (arith, whole)) 4 3 (omega arith)
      ∙ (held-parts bs bytes ready.opened).header 4 3 (omega arith))

  root-there : (s : List ℕ) → root_stored h s ≡ local_root_stored (new_link_in numbers count (local_root_in bs)) s
  root-there s =
      rw (ne_eqb (size h) 0 (λ e. omega (arith, some-kept bs set count numbers bytes ready)))
      (ap (λ (n : ℕ). stored 8 (big_endian 4 n) s) (sym (root-erased bs set count numbers bytes ready)))

  stored-encoded : length h.order ≤ 1024
      → local_root_stored (new_link_in numbers count (local_root_in bs))
      (count_stored (size h) (order_stored h.order 0 (links_of h (size h) (sites_stored h (size h) bs))))
      ≡ encode h bs
  unfolding encode
  stored-encoded listed =
      let few = few bs set count numbers bytes ready in
      let short = site-short bs set count numbers bytes ready in
      let root = new_link_in numbers count (local_root_in bs) in
      let counted = count_stored (size h) bs in
      let long : length counted ≡ arena_bytes = length-stored 0 (big_endian 4 (size h)) bs (omega (arith, whole)) ∙ whole in
      let rooted : length (local_root_stored root counted) ≡ arena_bytes = length-stored 8 (big_endian 4 root) counted (omega arith) ∙ long in
      ap (local_root_stored root) (header-past h few short 0 (big_endian 4 (size h)) bs (omega arith) whole listed)
      ∙ header-past h few short 8 (big_endian 4 root) counted (omega arith) long listed
      ∙ ap (order_stored h.order 0) (sym (slots-parted h few short (size h) (local_root_stored root counted) (omega arith) rooted))
      ∙ ap (λ (s : List ℕ). order_stored h.order 0 (slots_stored h (size h) s)) (sym (ap (root_stored h) header-there ∙ root-there counted))

  -- ---- As it is stored from the arrays

  module _ (first last before next : List ℕ) (kept : ℕ) (e : kept ≡ new_number (stays set) count) (found : LinksFound h kept first last before next)
      (long : length before ≡ 1024) where
    same : kept ≡ size h
    same = e ∙ sym (size-kept bs set count numbers bytes ready)

    links-stored : (s : List ℕ) → links_written first last next kept s ≡ links_of h (size h) s
    links-stored s =
        ap (λ (n : ℕ). links_written first last next n s) same
        ∙ links-right h found.lists found.ends
        (linkable bs set count numbers bytes ready found.lists found.ends
        (subst (λ (n : ℕ). Segments (children_of h) n found.lists found.ends) e found.segments))
        first last before next (subst (λ (n : ℕ). Linked found.lists found.ends n first last before next) same found.linked) long
        (size h) s (omega arith)

    -- each store as its function says it: the records, the links, the order and the header
    pub erased-encoded : (order : List ℕ) (listed root : ℕ) → length order ≡ 1024 → listed ≤ 1024 → slice 0 listed order ≡ h.order
        → root ≡ new_link_in numbers count (local_root_in bs) → (moved linked entered after : List ℕ)
        → moved ≡ sites_stored h (new_number (stays set) count) bs → linked ≡ links_written first last next kept moved
        → entered ≡ order_stored (slice 0 listed order) 0 linked → after ≡ local_root_stored root (count_stored kept entered) → after ≡ encode h bs
    erased-encoded order listed root long_order some same-order same-root moved linked entered after moves links entries header =
        let short : length h.order ≤ 1024 = omega (arith, ap length (sym same-order), length-take-le listed order (omega arith)) in
        let to-links = links ∙ ap (links_written first last next kept) (moves ∙ ap (λ (n : ℕ). sites_stored h n bs) (sym e ∙ same)) in
        let to-order = entries ∙ (λ i. order_stored (same-order i) 0 ((to-links ∙ links-stored (sites_stored h (size h) bs)) i)) in
        header ∙ (λ i. local_root_stored (same-root i) (count_stored (same i) (to-order i))) ∙ stored-encoded short
