-- How stores one after the other come to be the encoding of a graph. The parts of a graph that
-- stand in an arena (`HasParts`); slots that stand already (`slots-stand`); a run of stores, one in
-- each slot (`SlotRun`); and in an arena that holds a graph, such a run from the new marks on is
-- the encoding of another graph of as many nodes (`encode-run`, `encode-run-kept`). Assumes
-- nothing.
use mathlib.Core.Path.{◌≡◌, refl, sym, ap, subst, ◌∙◌}
use mathlib.Core.Logic.{◌⊎◌, inl, inr}
use mathlib.Core.Bool.{Bool, true, false, cond}
use mathlib.Core.List.{List, [], ◌∷◌}
use Prim.Native.Nat.{ℕ, zero, suc, ◌+◌, ◌≤◌, ◌<◌}
use native.Mathlib.Nat.{eq-or-lt_of_le, add-zero, zero-add}
use native.Mathlib.Omega.{arith}
use lib.Dec.{eqb}
use lib.ListN.{length, take, drop, get_or}
use lib.Seq.{take-length}
use borrow.Author.Tests.{eqb-false}
use Rattle.model.specs.Bytes.{stored}
use Rattle.model.specs.Lists.{bit}
use Rattle.model.specs.Graph.{Graph, size}
use Rattle.model.specs.Snapshot.{big_endian}
use Rattle.model.specs.Arena.{arena_bytes, slot_at, link_bytes, site_bytes, slot_stored, slots_stored, order_stored, header_bytes, root_stored, local_root_of, decode, encode}
use Rattle.model.specs.ArenaCalls.{ValidArena}
use Rattle.laws.proofs.BigEndianLaws.{Bytes}
use Rattle.laws.proofs.StoredLaws.{length-stored, drop-after-stored, part-after-stored, stored_next, stored_there}
use Rattle.arena.specs.Header.{marks_stored}
use Rattle.arena.proofs.Encodable.{Encodable}
use Rattle.arena.proofs.ArenaParts.{Apart, apart-kept, apart-slots, entries-there, header-part, root-part, link-part, site-part, entry-part}
use Rattle.arena.proofs.ArenaBack.{encode-decode}
use Rattle.arena.proofs.HeldEncodable.{held-encodable}

-- ---- The parts of a graph

pub record HasParts (g : Graph) (s : List ℕ) : Type 0 where
  pub header : (a w : ℕ) → a + w ≤ 7 → take w (drop (0 + a) s) ≡ take w (drop a (header_bytes g))
  pub root : 0 < size g → take 4 (drop 8 s) ≡ big_endian 4 (local_root_of g.nodes)
  pub links : (n : ℕ) → n < size g → take 12 (drop (slot_at n) s) ≡ link_bytes g n
  pub site-part : (n : ℕ) → n < size g → (a w : ℕ) → a + w ≤ length (site_bytes g n)
      → take w (drop (slot_at n + (16 + a)) s) ≡ take w (drop a (site_bytes g n))
  pub entry : (n : ℕ) → n < length g.order → take 4 (drop (slot_at n + 12) s) ≡ big_endian 4 (get_or g.order n 0)

-- a site whole
pub site-whole : (g : Graph) (s : List ℕ) → HasParts g s → (n : ℕ) → n < size g
    → take (length (site_bytes g n)) (drop (slot_at n + 16) s) ≡ site_bytes g n
site-whole g s parts n here =
    parts.site-part n here 0 (length (site_bytes g n)) (omega arith) ∙ take-length (site_bytes g n)

pub encoded-parts : (g : Graph) (bs : List ℕ) → Encodable g → length bs ≡ arena_bytes → HasParts g (encode g bs)
encoded-parts g bs ok whole = record {
  header = header-part g bs ok whole;
  root = root-part g bs ok whole;
  links = λ n here. ap (λ (a : ℕ). take 12 (drop a (encode g bs))) (sym (add-zero (slot_at n)))
      ∙ link-part g bs ok whole n here 0 12 (omega arith);
  site-part = site-part g bs ok whole;
  entry = entry-part g bs ok whole;
}

pub held-parts : (bs : List ℕ) → Bytes bs → ValidArena bs → HasParts (decode bs) bs
held-parts bs bytes o =
    subst (HasParts (decode bs)) (encode-decode bs bytes o.whole o.holds)
    (encoded-parts (decode bs) bs (held-encodable bs bytes o.whole o.holds) o.whole)

-- the marks
pub marks-there : (bs : List ℕ) → Bytes bs → ValidArena bs
    → bs ≡ marks_stored (decode bs).ordered (decode bs).finalized (decode bs).shallow bs
marks-there bs bytes o =
    let marks = bit (decode bs).ordered ∷ bit (decode bs).finalized ∷ bit (decode bs).shallow ∷ [] in
    sym (stored_there 4 3 marks bs ((held-parts bs bytes o).header 4 3 (omega arith)))

-- ---- Slots that stand

pub record SlotStands (h : Graph) (k : ℕ) (s : List ℕ) : Type 0 where
  pub links : take 12 (drop (slot_at k) s) ≡ link_bytes h k
  pub site : take (length (site_bytes h k)) (drop (slot_at k + 16) s) ≡ site_bytes h k

pub slots-stand : (h : Graph) (j k : ℕ) (s t : List ℕ) → j ≤ k → slots_stored h j s ≡ t
    → ((m : ℕ) → j ≤ m → m < k → SlotStands h m t) → slots_stored h k s ≡ t
slots-stand h zero zero s t l e stands = e
slots-stand h (suc j) zero s t l e stands = absurd (omega arith)
slots-stand h j (suc k) s t l e stands =
    go (λ q. slots-stand h j k s t q e (λ m p r. stands m p (omega arith))) (eq-or-lt_of_le {n = j} {m = suc k} l)
  where
    go : (j ≤ k → slots_stored h k s ≡ t) → (j ≡ suc k) ⊎ (j < suc k) → slots_stored h (suc k) s ≡ t
    go earlier (inl q) = ap (λ (n : ℕ). slots_stored h n s) (sym q) ∙ e
    go earlier (inr q) =
        let here = stands k (omega arith) (omega arith) in
        ap (slot_stored h k) (earlier (omega arith))
        ∙ ap (stored (slot_at k + 16) (site_bytes h k)) (stored_there (slot_at k) 12 (link_bytes h k) t here.links)
        ∙ stored_there (slot_at k + 16) (length (site_bytes h k)) (site_bytes h k) t here.site

-- ---- A run of stores, one in each of n slots: f k is the arena after k of them

pub record SlotRun (f : ℕ → List ℕ) (at : ℕ → ℕ) (p : ℕ → List ℕ) (n : ℕ) : Type 0 where
  pub whole : length (f 0) ≡ arena_bytes
  pub few : n ≤ 1024
  pub step : (k : ℕ) → f (suc k) ≡ stored (at k) (p k) (f k)
  pub low : (k : ℕ) → slot_at k ≤ at k
  pub high : (k : ℕ) → k < n → at k + length (p k) ≤ slot_at k + 320

module _ {f : ℕ → List ℕ} {at : ℕ → ℕ} {p : ℕ → List ℕ} {n : ℕ} (run : SlotRun f at p n) where
  pub run_length : (k : ℕ) → k ≤ n → length (f k) ≡ arena_bytes
  run_length zero l = run.whole
  run_length (suc k) l =
      let before = run_length k (omega arith) in
      ap length (run.step k) ∙ length-stored (at k) (p k) (f k) (omega (arith, run.few, run.high k (omega arith)))
      ∙ before

  run_fits : (k : ℕ) → k < n → at k + length (p k) ≤ length (f k)
  run_fits k h = omega (arith, run.few, run.high k h, run_length k (omega arith))

  -- a part apart from the stores
  pub run-kept : (a w k : ℕ) → k ≤ n → ((m : ℕ) → m < k → Apart a w (at m) (length (p m)))
      → take w (drop a (f k)) ≡ take w (drop a (f 0))
  run-kept a w zero l apart = refl
  run-kept a w (suc k) l apart =
      ap (λ (s : List ℕ). take w (drop a s)) (run.step k)
      ∙ apart-kept (at k) (p k) (f k) a w (run_fits k (omega arith)) (apart k (omega arith))
      ∙ run-kept a w k (omega arith) (λ m h. apart m (omega arith))

  -- the slots that are still to come
  pub run-behind : (k a : ℕ) → k ≤ n → slot_at k ≤ a → drop a (f k) ≡ drop a (f 0)
  run-behind zero a l h = refl
  run-behind (suc k) a l h =
      ap (drop a) (run.step k)
      ∙ drop-after-stored (at k) (p k) (f k) (run_fits k (omega arith)) a (omega (arith, run.high k (omega arith)))
      ∙ run-behind k a (omega arith) (omega arith)

-- ---- New marks

module _ (bs : List ℕ) (whole : length bs ≡ arena_bytes) (ordered finalized shallow : Bool) where
  abbrev marks : List ℕ
  marks = bit ordered ∷ bit finalized ∷ bit shallow ∷ []

  pub marked-length : length (marks_stored ordered finalized shallow bs) ≡ arena_bytes
  marked-length = length-stored 4 marks bs (omega arith) ∙ whole

  pub marked-behind : (a w : ℕ) → 7 ≤ a
      → take w (drop a (marks_stored ordered finalized shallow bs)) ≡ take w (drop a bs)
  marked-behind a w behind = part-after-stored 4 marks bs (omega arith) a w behind

-- ---- A graph of as many nodes, with the same local root

module _ (bs : List ℕ) (bytes : Bytes bs) (o : ValidArena bs) (h : Graph) (sized : size h ≡ size (decode bs))
    (rooted : local_root_of h.nodes ≡ local_root_of (decode bs).nodes) where
  abbrev g : Graph
  g = decode bs

  abbrev marked : List ℕ
  marked = marks_stored h.ordered h.finalized h.shallow bs

  as_before : (a w : ℕ) → 7 ≤ a → take w (drop a marked) ≡ take w (drop a bs)
  as_before = marked-behind bs o.whole h.ordered h.finalized h.shallow

  header-there : stored 0 (header_bytes h) bs ≡ marked
  header-there =
      let marks = bit h.ordered ∷ bit h.finalized ∷ bit h.shallow ∷ [] in
      sym (stored_next 0 (big_endian 4 (size h)) marks bs (omega (arith, o.whole))) ∙ ap (stored 4 marks)
      (stored_there 0 4 (big_endian 4 (size h)) bs
      ((held-parts bs bytes o).header 0 4 (omega arith) ∙ ap (big_endian 4) (sym sized)))

  root-there : root_stored h marked ≡ marked
  root-there = go (eqb (size h) 0) refl
    where
      go : (t : Bool) → eqb (size h) 0 ≡ t
          → cond t marked (stored 8 (big_endian 4 (local_root_of h.nodes)) marked) ≡ marked
      go true e = refl
      go false e =
          stored_there 8 4 (big_endian 4 (local_root_of h.nodes)) marked
          (as_before 8 4 (omega arith) ∙ (held-parts bs bytes o).root (omega (arith, sized, eqb-false (size h) 0 e))
          ∙ ap (big_endian 4) (sym rooted))

  module _ {f : ℕ → List ℕ} {at : ℕ → ℕ} {p : ℕ → List ℕ} (run : SlotRun f at p (size (decode bs)))
      (start : f 0 ≡ marked) where
    slots-run : ((k : ℕ) → k < size g → slot_stored h k (f k) ≡ f (suc k)) → (k : ℕ) → k ≤ size g
        → slots_stored h k marked ≡ f k
    slots-run step zero l = sym start
    slots-run step (suc k) l = ap (slot_stored h k) (slots-run step k (omega arith)) ∙ step k (omega arith)

    pub encode-run : ((k : ℕ) → k < size g → slot_stored h k (f k) ≡ f (suc k))
        → encode h bs ≡ order_stored h.order 0 (f (size g))
    unfolding encode
    encode-run step =
        ap (λ (s : List ℕ). order_stored h.order 0 (slots_stored h (size h) s))
        (ap (root_stored h) header-there ∙ root-there)
        ∙ ap (λ (k : ℕ). order_stored h.order 0 (slots_stored h k marked)) sized
        ∙ ap (order_stored h.order 0) (slots-run step (size g) (omega arith))

    -- slot k before its store is as it was
    pub slot-before : (k : ℕ) → k < size g → (a w : ℕ) → slot_at k ≤ a → take w (drop a (f k)) ≡ take w (drop a bs)
    slot-before k l a w q =
        ap (take w) (run-behind run k a (omega arith) q ∙ ap (drop a) start) ∙ as_before a w (omega arith)

    pub links-there : (k : ℕ) → k < size g → link_bytes h k ≡ link_bytes g k
        → stored (slot_at k) (link_bytes h k) (f k) ≡ f k
    links-there k here same =
        stored_there (slot_at k) 12 (link_bytes h k) (f k)
        (slot-before k here (slot_at k) 12 (omega arith) ∙ (held-parts bs bytes o).links k here ∙ sym same)

    -- behind the order's entries, which stay or go
    module _ (behind : (k : ℕ) → slot_at k + 16 ≤ at k) where
      order-there : (h.order ≡ g.order) ⊎ (h.order ≡ []) → order_stored h.order 0 (f (size g)) ≡ f (size g)
      order-there (inr none) = ap (λ (l : List ℕ). order_stored l 0 (f (size g))) none
      order-there (inl same) =
          ap (λ (l : List ℕ). order_stored l 0 (f (size g))) same
          ∙ entries-there g.order 0 (f (size g))
          (λ i l. ap (λ (k : ℕ). take 4 (drop (slot_at k + 12) (f (size g)))) (zero-add i)
          ∙ run-kept run (slot_at i + 12) 4 (size g) (omega arith)
          (λ m q. apart-slots i (slot_at i + 12) 4 m (at m) (length (p m)) (omega arith) (omega arith)
          (omega (arith, run.low m)) (omega (arith, run.high m q)) (λ e. inl (omega (arith, behind m))))
          ∙ ap (λ (s : List ℕ). take 4 (drop (slot_at i + 12) s)) start
          ∙ as_before (slot_at i + 12) 4 (omega arith) ∙ (held-parts bs bytes o).entry i l)

      pub encode-run-kept : (h.order ≡ g.order) ⊎ (h.order ≡ [])
          → ((k : ℕ) → k < size g → slot_stored h k (f k) ≡ f (suc k)) → encode h bs ≡ f (size g)
      encode-run-kept order step = encode-run step ∙ order-there order
