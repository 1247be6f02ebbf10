-- What each part of an arena is after `encode`: the parts that a graph uses (`header-part`,
-- `root-part`, `link-part`, `site-part`, `entry-part`), and that the rest keeps what it had
-- (`encode-keeps`). A part is w bytes from a on. The slots and the order each have one law for what
-- they leave, over any part. Assumes nothing.
use mathlib.Core.Path.{◌≡◌, refl, sym, ap, ◌∙◌}
use mathlib.Core.Logic.{◌⊎◌, inl, inr}
use mathlib.Core.Bool.{Bool, true, false, cond}
use mathlib.Core.List.{List, [], ◌∷◌}
use Prim.Native.Nat.{ℕ, zero, suc, ◌+◌, ◌≤◌, ◌<◌}
use native.Mathlib.Nat.{eq-or-lt_of_le, add-zero, zero-add, add_assoc}
use native.Mathlib.Omega.{arith}
use lib.Dec.{eqb, ltb}
use lib.ListN.{length, take, drop, get_or}
use borrow.Author.Tests.{eqb-false, ltb-true, ltb-false, ne_eqb}
use Rattle.model.specs.Bytes.{stored}
use Rattle.model.specs.Graph.{Graph, size, node_at}
use Rattle.model.specs.Snapshot.{big_endian}
use Rattle.model.specs.Arena.{arena_bytes, slot_at, link_bytes, site_bytes, slot_stored, slots_stored, order_stored, header_bytes, root_stored, local_root_of, encode}
use Rattle.laws.proofs.StoredLaws.{byte-part, length-stored, part-of-stored, part-in-stored, part-before-stored, part-after-stored, stored_there}
use Rattle.laws.proofs.SnapshotLaws.{record-length}
use Rattle.arena.proofs.Encodable.{Encodable, fit_at, order_below}

-- ---- Parts

-- the part at a, w long, and that at b, v long, share no byte
abbrev pub Apart : ℕ → ℕ → ℕ → ℕ → Type 0
Apart a w b v = (a + w ≤ b) ⊎ (b + v ≤ a)

pub apart-kept : (at : ℕ) (bs s : List ℕ) (a w : ℕ) → at + length bs ≤ length s → Apart a w at (length bs)
    → take w (drop a (stored at bs s)) ≡ take w (drop a s)
apart-kept at bs s a w fits (inl h) = part-before-stored at bs s fits a w h
apart-kept at bs s a w fits (inr h) = part-after-stored at bs s fits a w h

-- parts of two slots, which may be the same
pub apart-slots : (n a w m b v : ℕ) → slot_at n ≤ a → a + w ≤ slot_at n + 320 → slot_at m ≤ b → b + v ≤ slot_at m + 320 → (m ≡ n → Apart a w b v)
    → Apart a w b v
apart-slots n a w m b v la ha lb hb same = go (ltb m n) refl (ltb n m) refl
  where
    go : (s : Bool) → ltb m n ≡ s → (t : Bool) → ltb n m ≡ t → Apart a w b v
    go true e t f = inr (let l = ltb-true m n e in omega arith)
    go false e true f = inl (let l = ltb-true n m f in omega arith)
    go false e false f = same (omega (arith, ltb-false m n e, ltb-false n m f))

-- ---- The order

order-kept : (a w : ℕ) (ns : List ℕ) (at : ℕ) (s : List ℕ) → length s ≡ arena_bytes → at + length ns ≤ 1024
    → ((m : ℕ) → at ≤ m → m < at + length ns → Apart a w (slot_at m + 12) 4) → take w (drop a (order_stored ns at s)) ≡ take w (drop a s)
order-kept a w [] at s whole few apart = refl
order-kept a w (n ∷ ns) at s whole few apart =
    let next = stored (slot_at at + 12) (big_endian 4 n) s in
    order-kept a w ns (suc at) next (length-stored (slot_at at + 12) (big_endian 4 n) s (omega arith) ∙ whole) (omega arith)
    (λ m l h. apart m (omega arith) (omega arith))
    ∙ apart-kept (slot_at at + 12) (big_endian 4 n) s a w (omega arith) (apart at (omega arith) (omega arith))

order-stored-length : (ns : List ℕ) (at : ℕ) (s : List ℕ) → length s ≡ arena_bytes → at + length ns ≤ 1024 → length (order_stored ns at s) ≡ arena_bytes
order-stored-length [] at s whole few = whole
order-stored-length (n ∷ ns) at s whole few =
    order-stored-length ns (suc at) (stored (slot_at at + 12) (big_endian 4 n) s)
    (length-stored (slot_at at + 12) (big_endian 4 n) s (omega arith) ∙ whole) (omega arith)

entry-stored : (ns : List ℕ) (at : ℕ) (s : List ℕ) (n : ℕ) → length s ≡ arena_bytes → at + length ns ≤ 1024 → n < length ns
    → take 4 (drop (slot_at (at + n) + 12) (order_stored ns at s)) ≡ big_endian 4 (get_or ns n 0)
entry-stored [] at s n whole few h = absurd (omega arith)
entry-stored (x ∷ ns) at s zero whole few h =
    let next = stored (slot_at at + 12) (big_endian 4 x) s in
    ap (λ (m : ℕ). take 4 (drop (slot_at m + 12) (order_stored ns (suc at) next))) (add-zero at)
    ∙ order-kept (slot_at at + 12) 4 ns (suc at) next (length-stored (slot_at at + 12) (big_endian 4 x) s (omega arith) ∙ whole) (omega arith)
    (λ m l k. inl (omega arith))
    ∙ part-of-stored (slot_at at + 12) (big_endian 4 x) s (omega arith)
entry-stored (x ∷ ns) at s (suc n) whole few h =
    let next = stored (slot_at at + 12) (big_endian 4 x) s in
    let place : at + suc n ≡ suc at + n = omega arith in
    ap (λ (m : ℕ). take 4 (drop (slot_at m + 12) (order_stored ns (suc at) next))) place
    ∙ entry-stored ns (suc at) next n (length-stored (slot_at at + 12) (big_endian 4 x) s (omega arith) ∙ whole) (omega arith) (omega arith)

-- entries that are there
pub entries-there : (ns : List ℕ) (at : ℕ) (s : List ℕ)
    → ((i : ℕ) → i < length ns → take 4 (drop (slot_at (at + i) + 12) s) ≡ big_endian 4 (get_or ns i 0)) → order_stored ns at s ≡ s
entries-there [] at s there = refl
entries-there (n ∷ ns) at s there =
    let first : take 4 (drop (slot_at at + 12) s) ≡ big_endian 4 n =
    ap (λ (k : ℕ). take 4 (drop (slot_at k + 12) s)) (sym (add-zero at)) ∙ there zero (omega arith) in
    ap (order_stored ns (suc at)) (stored_there (slot_at at + 12) 4 (big_endian 4 n) s first)
    ∙ entries-there ns (suc at) s
    (λ i h. let place : suc at + i ≡ at + suc i = omega arith in
    ap (λ (k : ℕ). take 4 (drop (slot_at k + 12) s)) place ∙ there (suc i) (omega arith))

-- ---- The slots

site-length : (g : Graph) (n : ℕ) → length (site_bytes g n) ≡ 30 + length (node_at g.nodes n).path
site-length g n = omega (arith, record-length (node_at g.nodes n))

module _ (g : Graph) (ok : Encodable g) where
  pub site-short : (n : ℕ) → n < size g → length (site_bytes g n) ≤ 285
  site-short n h = omega (arith, site-length g n, (fit_at g.nodes ok.fit n h).path-short)

  module _ (n : ℕ) (s : List ℕ) (here : n < size g) (whole : length s ≡ arena_bytes) where
    links-fit : slot_at n + length (link_bytes g n) ≤ length s
    links-fit = omega (arith, ok.legal.few-nodes)

    links-length : length (stored (slot_at n) (link_bytes g n) s) ≡ arena_bytes
    links-length = length-stored (slot_at n) (link_bytes g n) s links-fit ∙ whole

    site-fits : slot_at n + 16 + length (site_bytes g n) ≤ length (stored (slot_at n) (link_bytes g n) s)
    site-fits = omega (arith, ok.legal.few-nodes, site-short n here, links-length)

    slot-length : length (slot_stored g n s) ≡ arena_bytes
    slot-length = length-stored (slot_at n + 16) (site_bytes g n) (stored (slot_at n) (link_bytes g n) s) site-fits ∙ links-length

    slot_kept : (a w : ℕ) → Apart a w (slot_at n) 12 → Apart a w (slot_at n + 16) (length (site_bytes g n))
        → take w (drop a (slot_stored g n s)) ≡ take w (drop a s)
    slot_kept a w links site =
        apart-kept (slot_at n + 16) (site_bytes g n) (stored (slot_at n) (link_bytes g n) s) a w site-fits site
        ∙ apart-kept (slot_at n) (link_bytes g n) s a w links-fit links

  slots_length : (k : ℕ) (s : List ℕ) → k ≤ size g → length s ≡ arena_bytes → length (slots_stored g k s) ≡ arena_bytes
  slots_length zero s h whole = whole
  slots_length (suc k) s h whole = slot-length k (slots_stored g k s) (omega arith) (slots_length k s (omega arith) whole)

  -- a part apart from the slots n to k - 1 is as it was before them
  slots_kept : (a w n k : ℕ) (s : List ℕ) → k ≤ size g → length s ≡ arena_bytes
      → ((m : ℕ) → n ≤ m → m < k → Apart a w (slot_at m) 12 × Apart a w (slot_at m + 16) (length (site_bytes g m)))
      → n ≤ k → take w (drop a (slots_stored g k s)) ≡ take w (drop a (slots_stored g n s))
  slots_kept a w zero zero s h whole apart l = refl
  slots_kept a w (suc n) zero s h whole apart l = absurd (omega arith)
  slots_kept a w n (suc k) s h whole apart l =
      go (slots_kept a w n k s (omega arith) whole (λ m p q. apart m p (omega arith))) (eq-or-lt_of_le {n = n} {m = suc k} l)
    where
      go : (n ≤ k → take w (drop a (slots_stored g k s)) ≡ take w (drop a (slots_stored g n s))) → (n ≡ suc k) ⊎ (n < suc k)
          → take w (drop a (slots_stored g (suc k) s)) ≡ take w (drop a (slots_stored g n s))
      go earlier (inl e) = rw e
      go earlier (inr q) =
          let p = apart k (omega arith) (omega arith) in
          slot_kept k (slots_stored g k s) (omega arith) (slots_length k s (omega arith) whole) a w p.0 p.1 ∙ earlier (omega arith)

-- ---- The header

root-length : (g : Graph) (s : List ℕ) → length s ≡ arena_bytes → length (root_stored g s) ≡ arena_bytes
root-length g s whole = go (eqb (size g) 0)
  where
    go : (t : Bool) → length (cond t s (stored 8 (big_endian 4 (local_root_of g.nodes)) s)) ≡ arena_bytes
    go true = whole
    go false = length-stored 8 (big_endian 4 (local_root_of g.nodes)) s (omega arith) ∙ whole

root_kept : (g : Graph) (s : List ℕ) (a w : ℕ) → length s ≡ arena_bytes → (0 < size g → Apart a w 8 4)
    → take w (drop a (root_stored g s)) ≡ take w (drop a s)
root_kept g s a w whole apart = go (eqb (size g) 0) refl
  where
    go : (t : Bool) → eqb (size g) 0 ≡ t
        → take w (drop a (cond t s (stored 8 (big_endian 4 (local_root_of g.nodes)) s))) ≡ take w (drop a s)
    go true e = refl
    go false e =
        apart-kept 8 (big_endian 4 (local_root_of g.nodes)) s a w (omega arith) (apart (omega (arith, eqb-false (size g) 0 e)))

-- ---- Encoding

abbrev headed : Graph → List ℕ → List ℕ
headed g bs = stored 0 (header_bytes g) bs

abbrev opened : Graph → List ℕ → List ℕ
opened g bs = root_stored g (headed g bs)

-- the part is none of the bytes that g uses: the count and the marks; the local root; of each slot
-- the links and, from byte 16 on, the prim count and the record to the end of its path; and an
-- order's entries
pub record Unused (g : Graph) (a w : ℕ) : Type 0 where
  pub header : Apart a w 0 7
  pub root : 0 < size g → Apart a w 8 4
  pub links : (n : ℕ) → n < size g → Apart a w (slot_at n) 12
  pub site : (n : ℕ) → n < size g → Apart a w (slot_at n + 16) (30 + length (node_at g.nodes n).path)
  pub entry : (n : ℕ) → n < length g.order → Apart a w (slot_at n + 12) 4

module _ (g : Graph) (bs : List ℕ) (ok : Encodable g) (whole : length bs ≡ arena_bytes) where
  few : size g ≤ 1024
  few = ok.legal.few-nodes

  few-ordered : length g.order ≤ size g
  few-ordered = (order_below g ok).0

  headed-length : length (headed g bs) ≡ arena_bytes
  headed-length = length-stored 0 (header_bytes g) bs (omega arith) ∙ whole

  opened-length : length (opened g bs) ≡ arena_bytes
  opened-length = root-length g (headed g bs) headed-length

  all-slots-length : length (slots_stored g (size g) (opened g bs)) ≡ arena_bytes
  all-slots-length = slots_length g ok (size g) (opened g bs) (omega arith) opened-length

  pub length-encode : length (encode g bs) ≡ length bs
  unfolding encode
  length-encode =
      order-stored-length g.order 0 (slots_stored g (size g) (opened g bs)) all-slots-length (omega (arith, few, few-ordered)) ∙ sym whole

  -- a part apart from the order's entries, and from the slots n and above
  before-order : (a w n : ℕ) → n ≤ size g → ((m : ℕ) → m < length g.order → Apart a w (slot_at m + 12) 4)
      → ((m : ℕ) → n ≤ m → m < size g → Apart a w (slot_at m) 12 × Apart a w (slot_at m + 16) (length (site_bytes g m)))
      → take w (drop a (encode g bs)) ≡ take w (drop a (slots_stored g n (opened g bs)))
  unfolding encode
  before-order a w n h entries slots =
      order-kept a w g.order 0 (slots_stored g (size g) (opened g bs)) all-slots-length (omega (arith, few, few-ordered))
      (λ m l q. entries m (omega arith))
      ∙ slots_kept g ok a w n (size g) (opened g bs) (omega arith) opened-length slots h

  before-slots : (a w : ℕ) → a + w ≤ 64 → take w (drop a (encode g bs)) ≡ take w (drop a (opened g bs))
  before-slots a w h = before-order a w 0 (omega arith) (λ m l. inl (omega arith)) (λ m l q. (inl (omega arith), inl (omega arith)))

  -- ---- The used parts

  pub header-part : (a w : ℕ) → a + w ≤ 7 → take w (drop (0 + a) (encode g bs)) ≡ take w (drop a (header_bytes g))
  header-part a w h =
      before-slots (0 + a) w (omega arith) ∙ root_kept g (headed g bs) (0 + a) w headed-length (λ l. inl (omega arith))
      ∙ part-in-stored 0 (header_bytes g) bs (omega arith) a w (omega arith)

  pub root-part : 0 < size g → take 4 (drop 8 (encode g bs)) ≡ big_endian 4 (local_root_of g.nodes)
  root-part h =
      before-slots 8 4 (omega arith)
      ∙ rw (ne_eqb (size g) 0 (λ e. omega arith))
      (part-of-stored 8 (big_endian 4 (local_root_of g.nodes)) (headed g bs) (omega (arith, headed-length)))

  pub entry-part : (n : ℕ) → n < length g.order → take 4 (drop (slot_at n + 12) (encode g bs)) ≡ big_endian 4 (get_or g.order n 0)
  unfolding encode
  entry-part n h =
      ap (λ (m : ℕ). take 4 (drop (slot_at m + 12) (encode g bs))) (sym (zero-add n))
      ∙ entry-stored g.order 0 (slots_stored g (size g) (opened g bs)) n all-slots-length (omega (arith, few, few-ordered)) h

  module _ (n : ℕ) (here : n < size g) where
    abbrev earlier : List ℕ
    earlier = slots_stored g n (opened g bs)

    earlier-length : length earlier ≡ arena_bytes
    earlier-length = slots_length g ok n (opened g bs) (omega arith) opened-length

    -- a part of slot n but the order's entry there
    slot-part : (a w : ℕ) → slot_at n ≤ a → a + w ≤ slot_at n + 320 → Apart a w (slot_at n + 12) 4
        → take w (drop a (encode g bs)) ≡ take w (drop a (slot_stored g n earlier))
    slot-part a w l h apart =
        before-order a w (suc n) (omega arith)
        (λ m q. apart-slots n a w m (slot_at m + 12) 4 l h (omega arith) (omega arith) (λ e. rw e apart))
        (λ m q r. (inl (omega arith), inl (omega arith)))

    pub link-part : (a w : ℕ) → a + w ≤ 12 → take w (drop (slot_at n + a) (encode g bs)) ≡ take w (drop a (link_bytes g n))
    link-part a w h =
        slot-part (slot_at n + a) w (omega arith) (omega arith) (inl (omega arith))
        ∙ part-before-stored (slot_at n + 16) (site_bytes g n) (stored (slot_at n) (link_bytes g n) earlier)
        (site-fits g ok n earlier here earlier-length) (slot_at n + a) w (omega arith)
        ∙ part-in-stored (slot_at n) (link_bytes g n) earlier (links-fit g ok n earlier here earlier-length) a w h

    pub site-part : (a w : ℕ) → a + w ≤ length (site_bytes g n)
        → take w (drop (slot_at n + (16 + a)) (encode g bs)) ≡ take w (drop a (site_bytes g n))
    site-part a w h =
        let short = site-short g ok n here in
        slot-part (slot_at n + (16 + a)) w (omega arith) (omega arith) (inr (omega arith))
        ∙ ap (λ (at : ℕ). take w (drop at (slot_stored g n earlier))) (sym (add_assoc (slot_at n) 16 a))
        ∙ part-in-stored (slot_at n + 16) (site_bytes g n) (stored (slot_at n) (link_bytes g n) earlier)
        (site-fits g ok n earlier here earlier-length) a w h

  -- ---- The unused ones

  pub encode-keeps : (a w : ℕ) → Unused g a w → take w (drop a (encode g bs)) ≡ take w (drop a bs)
  encode-keeps a w unused =
      before-order a w 0 (omega arith) unused.entry
      (λ m l q. (unused.links m q, rw (site-length g m) (unused.site m q)))
      ∙ root_kept g (headed g bs) a w headed-length unused.root
      ∙ apart-kept 0 (header_bytes g) bs a w (omega arith) unused.header

  pub encode-keeps-byte : (i : ℕ) → Unused g i 1 → get_or (encode g bs) i 0 ≡ get_or bs i 0
  encode-keeps-byte i unused = rw (byte-part i bs, byte-part i (encode g bs), encode-keeps i 1 unused)

  -- such are: the header behind the marks, but the local root of a graph with nodes; the slots from
  -- the graph's size on; a slot behind its record; and where there is no order, the places of its
  -- entries
  pub unused-header : (a w : ℕ) → 7 ≤ a → a + w ≤ 64 → (0 < size g → Apart a w 8 4) → Unused g a w
  unused-header a w l h root = record {
    header = inr (omega arith);
    root = root;
    links = λ n q. inl (omega arith);
    site = λ n q. inl (omega arith);
    entry = λ n q. inl (omega arith);
  }

  pub unused-slots : (a w : ℕ) → slot_at (size g) ≤ a → Unused g a w
  unused-slots a w l = record {
    header = inr (omega arith);
    root = λ some-node. inr (omega arith);
    links = λ n q. inr (omega arith);
    site = λ n q. inr (omega (arith, site-length g n, site-short g ok n q));
    entry = λ n q. inr (omega (arith, few-ordered));
  }

  pub unused-behind : (n a w : ℕ) → n < size g → slot_at n + 46 + length (node_at g.nodes n).path ≤ a → a + w ≤ slot_at n + 320 → Unused g a w
  unused-behind n a w here l h = record {
    header = inr (omega arith);
    root = λ some-node. inr (omega arith);
    links = λ m q. apart-slots n a w m (slot_at m) 12 (omega arith) h (omega arith) (omega arith) (λ e. inr (omega arith));
    site = λ m q. apart-slots n a w m (slot_at m + 16) (30 + length (node_at g.nodes m).path) (omega arith) h (omega arith)
        (omega (arith, site-length g m, site-short g ok m q)) (λ e. inr (rw e (omega arith)));
    entry = λ m q. apart-slots n a w m (slot_at m + 12) 4 (omega arith) h (omega arith) (omega arith) (λ e. inr (omega arith));
  }

  pub unused-entry : (n : ℕ) → g.ordered ≡ false → Unused g (slot_at n + 12) 4
  unused-entry n e = record {
    header = inr (omega arith);
    root = λ some-node. inr (omega arith);
    links = λ m q. apart-slots n (slot_at n + 12) 4 m (slot_at m) 12 (omega arith) (omega arith) (omega arith) (omega arith) (λ s. inr (omega arith));
    site = λ m q. apart-slots n (slot_at n + 12) 4 m (slot_at m + 16) (30 + length (node_at g.nodes m).path) (omega arith) (omega arith)
        (omega arith) (omega (arith, site-length g m, site-short g ok m q)) (λ s. inl (omega arith));
    entry = λ m q. absurd (omega (arith, ap length (ok.no-order e)));
  }
