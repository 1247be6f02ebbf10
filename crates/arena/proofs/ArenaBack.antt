-- The graph that an arena holds, encoded in that arena, changes no byte: `encode-decode`. Each
-- store of `encode` puts in what is there; so nothing is said of how the stores meet. Assumes
-- nothing.
use mathlib.Core.Path.{◌≡◌, refl, sym, ap, ◌∙◌}
use mathlib.Core.Bool.{Bool, true, false, cond}
use mathlib.Core.List.{List, [], ◌∷◌, ◌++◌}
use Prim.Native.Nat.{ℕ, zero, suc, ◌+◌, ◌≤◌, ◌<◌}
use native.Mathlib.Omega.{arith}
use lib.Dec.{eqb}
use lib.ListN.{length, take, drop, length-drop, get_or-eq_default}
use lib.Seq.{length-take-le}
use borrow.Author.Tests.{eqb-true, eqb-false}
use Rattle.model.specs.Bytes.{stored}
use Rattle.model.specs.Lists.{bit}
use Rattle.model.specs.Path.{prim_count}
use Rattle.model.specs.Node.{invalid, Node, no_node}
use Rattle.model.specs.Graph.{Graph, size, node_at, children_of}
use Rattle.model.specs.Snapshot.{big_endian, value, field, record_body}
use Rattle.model.specs.Arena.{arena_bytes, slot_at, count_in, ordered_in, finalized_in, shallow_in, first_child_in, last_child_in, next_sibling_in, order_entry_in, prim_count_in, record_length_in, node_in, tabulate, nodes_in, children_in, first_of, last_of, after_in, local_root_of, decode, link_bytes, site_bytes, slot_stored, slots_stored, order_stored, header_bytes, root_stored, encode, holds_graph}
use Rattle.laws.proofs.BigEndianLaws.{Bytes}
use Rattle.laws.proofs.StoredLaws.{bytes_take, bytes_drop, stored-part-same, stored-field-same, stored_next}
use Rattle.laws.proofs.SnapshotLaws.{FieldsFit, read-record-written, read-record-fits}
use Rattle.laws.proofs.SnapshotReadLaws.{built, built-nodes}
use Rattle.laws.proofs.LegalGraphs.{Legal}
use Rattle.laws.proofs.LegalGrows.{grows-legal}
use Rattle.arena.proofs.HeldArenas.{Held, held, held-chain}
use Rattle.arena.proofs.ChainLaws.{after-linked}
use Rattle.arena.proofs.TabulateLaws.{tabulate-length, tabulate-at}

-- ---- Stores of what is there

same_next : (at next : ℕ) (xs ys s : List ℕ) → next ≡ at + length xs → at + length xs + length ys ≤ length s → stored at xs s ≡ s
    → stored next ys s ≡ s → stored at (xs ++ ys) s ≡ s
same_next at next xs ys s e fits first second =
    sym (stored_next at xs ys s fits) ∙ ap (stored (at + length xs) ys) first ∙ ap (λ (n : ℕ). stored n ys s) (sym e) ∙ second

byte-same : (at : ℕ) (s : List ℕ) → at < length s → stored at (field at 1 s ∷ []) s ≡ s
byte-same at s h = ap (λ (xs : List ℕ). stored at xs s) (go (drop at s) (rw length-drop (omega arith))) ∙ stored-part-same at 1 s
  where
    go : (xs : List ℕ) → 0 < length xs → value (take 1 xs) ∷ [] ≡ take 1 xs
    go [] l = absurd (omega arith)
    go (x ∷ xs) l = ap (λ (y : ℕ). y ∷ []) (omega arith)

bit-same : (n : ℕ) → n ≤ 1 → bit (eqb n 1) ≡ n
bit-same zero h = refl
bit-same (suc zero) h = refl
bit-same (suc (suc n)) h = absurd (omega arith)

module _ (bs : List ℕ) (bytes : Bytes bs) (whole : length bs ≡ arena_bytes) where
  number_same : (at w n : ℕ) → at + w ≤ arena_bytes → n ≡ field at w bs → stored at (big_endian w n) bs ≡ bs
  number_same at w n fits e = ap (λ (m : ℕ). stored at (big_endian w m) bs) e ∙ stored-field-same at w bs bytes (omega arith)

  entries-same : (at n : ℕ) → at + n ≤ 1024 → order_stored (tabulate (order_entry_in bs) at n) at bs ≡ bs
  entries-same at zero h = refl
  entries-same at (suc n) h =
      ap (order_stored (tabulate (order_entry_in bs) (suc at) n) (suc at)) (number_same (slot_at at + 12) 4 (order_entry_in bs at) (omega arith) refl)
      ∙ entries-same (suc at) n (omega arith)

-- ---- The graph held

module _ (bs : List ℕ) (held : Held bs) where
  pub size-decode : size (decode bs) ≡ count_in bs
  unfolding decode
  size-decode = tabulate-length (node_in bs) 0 (count_in bs)

  pub node-decode : (n : ℕ) → n < count_in bs → node_at (decode bs).nodes n ≡ node_in bs n
  unfolding decode
  node-decode n h = tabulate-at (node_in bs) no_node (count_in bs) n h

  pub lists-decode : length (decode bs).children ≡ count_in bs
  unfolding decode
  lists-decode = tabulate-length (children_in bs) 0 (count_in bs)

  pub children-decode : (v : ℕ) → v < count_in bs → children_of (decode bs) v ≡ children_in bs v
  unfolding decode
  children-decode v h = tabulate-at (children_in bs) [] (count_in bs) v h

  -- its records are those of a legal graph
  abbrev fresh : Graph
  fresh = built (nodes_in bs)

  pub fresh-legal : Legal fresh
  fresh-legal = grows-legal (nodes_in bs) held.records

  pub fresh-nodes : fresh.nodes ≡ (decode bs).nodes
  unfolding decode
  fresh-nodes = built-nodes (nodes_in bs)

  pub parent-lower : (n : ℕ) → 0 < n → n < count_in bs → (node_in bs n).parent < n
  parent-lower n l h =
      let lower : (node_at (decode bs).nodes n).parent < n =
      rw fresh-nodes at (fresh-legal.links.parent-lower n l (omega (arith, ap length fresh-nodes, size-decode))) in
      omega (arith, ap (λ (x : Node). x.parent) (node-decode n h))

  pub root-parent : 0 < count_in bs → (node_at (decode bs).nodes 0).parent ≡ invalid
  root-parent h = rw fresh-nodes at (fresh-legal.node-0 (omega (arith, ap length fresh-nodes, size-decode))).no-parent

  pub next-decode : (n : ℕ) → n < count_in bs → after_in n (children_of (decode bs) (node_at (decode bs).nodes n).parent) ≡ next_sibling_in bs n
  next-decode n h = go (eqb n 0) refl
    where
      go : (t : Bool) → eqb n 0 ≡ t → after_in n (children_of (decode bs) (node_at (decode bs).nodes n).parent) ≡ next_sibling_in bs n
      go true e =
          let z = eqb-true n 0 e in
          let childless : children_of (decode bs) invalid ≡ [] =
          get_or-eq_default (decode bs).children [] {n = invalid} (omega (arith, lists-decode, held.few)) in
          rw (z, root-parent (omega arith), childless) (sym ((held.node n h).next-of-0 z))
      go false e =
          let higher : 0 < n = omega (arith, eqb-false n 0 e) in
          let lower = parent-lower n higher h in
          let chain = held-chain bs held (node_in bs n).parent (omega arith) in
          rw (node-decode n h, children-decode (node_in bs n).parent (omega arith))
          (after-linked (next_sibling_in bs) (children_in bs (node_in bs n).parent) n chain.linked (omega (arith, (held.node n h).once higher)))

-- ---- Encoded again

module _ (bs : List ℕ) (bytes : Bytes bs) (whole : length bs ≡ arena_bytes) (held : Held bs) where
  module _ (n : ℕ) (h : n < count_in bs) where
    few : slot_at n + 320 ≤ arena_bytes
    few = omega (arith, held.few)

    links-same : stored (slot_at n) (link_bytes (decode bs) n) bs ≡ bs
    links-same =
        let parent = (node_at (decode bs).nodes n).parent in
        let first : first_of (children_of (decode bs) n) ≡ first_child_in bs n =
        ap first_of (children-decode bs held n h) ∙ (held-chain bs held n h).first in
        let last : last_of (children_of (decode bs) n) ≡ last_child_in bs n =
        ap last_of (children-decode bs held n h) ∙ sym (held.node n h).last-child in
        same_next (slot_at n) (slot_at n + 4) (big_endian 4 (first_of (children_of (decode bs) n)))
        (big_endian 4 (last_of (children_of (decode bs) n)) ++ big_endian 4 (after_in n (children_of (decode bs) parent))) bs refl (omega (arith, few))
        (number_same bs bytes whole (slot_at n) 4 _ (omega (arith, few)) first)
        (same_next (slot_at n + 4) (slot_at n + 8) (big_endian 4 (last_of (children_of (decode bs) n)))
        (big_endian 4 (after_in n (children_of (decode bs) parent))) bs (omega arith) (omega (arith, few))
        (number_same bs bytes whole (slot_at n + 4) 4 _ (omega (arith, few)) last)
        (number_same bs bytes whole (slot_at n + 8) 4 _ (omega (arith, few)) (next-decode bs held n h)))

    abbrev body : List ℕ
    body = take (record_length_in bs n) (drop (slot_at n + 19) bs)

    body-length : length body ≡ record_length_in bs n
    body-length =
        length-take-le (record_length_in bs n) (drop (slot_at n + 19) bs) (rw length-drop (omega (arith, few, (held.node n h).record-short)))

    body_bytes : Bytes body
    body_bytes = bytes_take (record_length_in bs n) (drop (slot_at n + 19) bs) (bytes_drop (slot_at n + 19) bs bytes)

    pub node-fits : FieldsFit (node_in bs n)
    node-fits =
        let node = held.node n h in
        read-record-fits body body_bytes (omega (arith, body-length)) (omega (arith, body-length))

    pub body-written : record_body (node_at (decode bs).nodes n) ≡ body
    body-written =
        ap record_body (node-decode bs held n h)
        ∙ read-record-written body body_bytes (omega (arith, body-length, (held.node n h).record-named))

    site-same : stored (slot_at n + 16) (site_bytes (decode bs) n) bs ≡ bs
    site-same =
        let short = (held.node n h).record-short in
        let counted : prim_count (node_at (decode bs).nodes n).path ≡ prim_count_in bs n =
        ap (λ (x : Node). prim_count x.path) (node-decode bs held n h) ∙ sym (held.node n h).prim-count in
        rw (body-written, counted)
        (same_next (slot_at n + 16) (slot_at n + 17) (prim_count_in bs n ∷ []) (big_endian 2 (length body) ++ body) bs (omega arith)
        (omega (arith, few, body-length)) (byte-same (slot_at n + 16) bs (omega (arith, few)))
        (same_next (slot_at n + 17) (slot_at n + 19) (big_endian 2 (length body)) body bs (omega arith) (omega (arith, few, body-length))
        (number_same bs bytes whole (slot_at n + 17) 2 (length body) (omega (arith, few)) body-length)
        (stored-part-same (slot_at n + 19) (record_length_in bs n) bs)))

    slot_same : slot_stored (decode bs) n bs ≡ bs
    slot_same = ap (stored (slot_at n + 16) (site_bytes (decode bs) n)) links-same ∙ site-same

  slots_same : (k : ℕ) → k ≤ count_in bs → slots_stored (decode bs) k bs ≡ bs
  slots_same zero h = refl
  slots_same (suc k) h = ap (slot_stored (decode bs) k) (slots_same k (omega arith)) ∙ slot_same k (omega arith)

  header-same : stored 0 (header_bytes (decode bs)) bs ≡ bs
  unfolding decode
  header-same =
      rw (bit-same (ordered_in bs) held.ordered-bit, bit-same (finalized_in bs) held.finalized-bit, bit-same (shallow_in bs) held.shallow-bit)
      (same_next 0 4 (big_endian 4 (size (decode bs))) (ordered_in bs ∷ finalized_in bs ∷ shallow_in bs ∷ []) bs refl (omega arith)
      (number_same bs bytes whole 0 4 (size (decode bs)) (omega arith) (size-decode bs held))
      (same_next 4 5 (ordered_in bs ∷ []) (finalized_in bs ∷ shallow_in bs ∷ []) bs refl (omega arith) (byte-same 4 bs (omega arith))
      (same_next 5 6 (finalized_in bs ∷ []) (shallow_in bs ∷ []) bs refl (omega arith) (byte-same 5 bs (omega arith)) (byte-same 6 bs (omega arith)))))

  root-same : root_stored (decode bs) bs ≡ bs
  unfolding decode
  root-same = go (eqb (size (decode bs)) 0) refl
    where
      go : (t : Bool) → eqb (size (decode bs)) 0 ≡ t → cond t bs (stored 8 (big_endian 4 (local_root_of (decode bs).nodes)) bs) ≡ bs
      go true e = refl
      go false e =
          number_same bs bytes whole 8 4 (local_root_of (nodes_in bs)) (omega arith)
          (sym (held.local-root (omega (arith, size-decode bs held, eqb-false (size (decode bs)) 0 e))))

  order_same : order_stored (decode bs).order 0 bs ≡ bs
  unfolding decode
  order_same = go (eqb (ordered_in bs) 1)
    where
      go : (t : Bool) → order_stored (cond t (tabulate (order_entry_in bs) 0 (count_in bs)) []) 0 bs ≡ bs
      go true = entries-same bs bytes whole 0 (count_in bs) (omega (arith, held.few))
      go false = refl

  encode-held : encode (decode bs) bs ≡ bs
  unfolding encode
  encode-held =
      ap (λ (s : List ℕ). order_stored (decode bs).order 0 (slots_stored (decode bs) (size (decode bs)) (root_stored (decode bs) s))) header-same
      ∙ ap (λ (s : List ℕ). order_stored (decode bs).order 0 (slots_stored (decode bs) (size (decode bs)) s)) root-same
      ∙ ap (order_stored (decode bs).order 0) (slots_same (size (decode bs)) (omega (arith, size-decode bs held))) ∙ order_same

pub encode-decode : (bs : List ℕ) → Bytes bs → length bs ≡ arena_bytes → holds_graph bs ≡ true → encode (decode bs) bs ≡ bs
encode-decode bs bytes whole e = encode-held bs bytes whole (held bs e)
