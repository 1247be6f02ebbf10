-- The records of the graph that erasing leaves of what an arena holds: how many there are
-- (`size-kept`, `few`), their lengths (`site-short`), and each by its node's old number
-- (`site-erased`). Assumes nothing.
use mathlib.Core.Path.{◌≡◌, refl, sym, ap, ◌∙◌}
use mathlib.Core.Bool.{Bool, true, false, cond}
use mathlib.Core.List.{List, ◌∷◌}
use Prim.Native.Nat.{ℕ, ◌+◌, ◌≤◌, ◌<◌}
use native.Mathlib.Omega.{arith}
use lib.Dec.{ltb}
use lib.ListN.{length, drop, take, get_or}
use borrow.Author.Tests.{ltb-true}
use Rattle.model.specs.Node.{Node, changed}
use Rattle.model.specs.Graph.{Graph, size, node_at}
use Rattle.model.specs.Path.{prim_count}
use Rattle.model.specs.Snapshot.{value, read_record, record_bytes}
use Rattle.model.specs.Arena.{slot_at, prim_count_in, node_in, site_bytes, decode}
use Rattle.model.specs.ArenaCalls.{ValidNode}
use Rattle.model.specs.Erasing.{stays, new_number, new_link, erase}
use Rattle.laws.proofs.BigEndianLaws.{Bytes}
use Rattle.laws.proofs.SnapshotLaws.{record-length}
use Rattle.laws.proofs.EraseLists.{new-number-no-larger, at-new-numbers}
use Rattle.laws.proofs.EraseLaws.{size-erased, node-erased}
use Rattle.arena.proofs.Encodable.{Encodable, fit_at}
use Rattle.arena.proofs.HeldEncodable.{held-encodable}
use Rattle.arena.proofs.ReadNodes.{sizes, all, node-read}
use Rattle.erasing.specs.EraseRecords.{NumberResult, new_link_in, node_renumbered}

module _ (bs set : List ℕ) (count : ℕ) (numbers : List ℕ) (bytes : Bytes bs) (ready : NumberResult bs set count numbers) where
  abbrev g : Graph
  g = decode bs

  abbrev h : Graph
  h = erase set g

  abbrev kept : ℕ → Bool
  kept = stays set

  pub ok : Encodable g
  ok = held-encodable bs bytes ready.opened.whole ready.opened.holds

  pub sized : size g ≡ count
  sized = sizes bs ready.opened ∙ sym ready.counted

  pub few-nodes : count ≤ 1024
  few-nodes = omega (arith, sized, ok.legal.few-nodes)

  pub size-kept : size h ≡ new_number kept count
  size-kept = size-erased kept g ∙ ap (new_number kept) sized

  pub few : size h ≤ 1024
  few = omega (arith, size-erased kept g, new-number-no-larger kept (size g), ok.legal.few-nodes)

  -- ---- The records

  pub site-short : (k : ℕ) → k < size h → length (site_bytes h k) ≤ 285
  site-short k l = at-new-numbers kept (λ k. length (site_bytes h k) ≤ 285) (size g) short k (omega (arith, size-erased kept g))
    where
      short : (n : ℕ) → n < size g → kept n ≡ true → length (site_bytes h (new_number kept n)) ≤ 285
      short n l k =
          let x = node_at h.nodes (new_number kept n) in
          let same : length x.path ≡ length (node_at g.nodes n).path = ap (λ (y : Node). length y.path) (node-erased kept g n l k) in
          omega (arith, record-length x, (fit_at g.nodes ok.fit n l).path-short)

  pub link-same : (l : ℕ) → new_link_in numbers count l ≡ new_link kept (size g) l
  link-same l = go (ltb l count) refl ∙ ap (λ (n : ℕ). cond (ltb l n) (new_number kept l) l) (sym sized)
    where
      go : (b : Bool) → ltb l count ≡ b → cond b (get_or numbers l 0) l ≡ cond b (new_number kept l) l
      go true e = ready.numbered.number l (ltb-true l count e)
      go false e = refl

  module _ (n : ℕ) (here : n < count) (k : kept n ≡ true) (arena : List ℕ) (same : (a : ℕ) → slot_at n ≤ a → drop a arena ≡ drop a bs) where
    readable : ValidNode bs n
    readable = record { opened = ready.opened; below = omega (arith, ready.counted) }

    node-same : node_in arena n ≡ node_at g.nodes n
    node-same =
        (λ i. read_record (take (value (take 2 (same (slot_at n + 17) (omega arith) i))) (same (slot_at n + 19) (omega arith) i)))
        ∙ sym (node-read bs n readable)

    prim-same : prim_count_in arena n ≡ prim_count (node_at g.nodes n).path
    prim-same =
        ap (λ (l : List ℕ). value (take 1 l)) (same (slot_at n + 16) (omega arith)) ∙ ((all bs n readable).node n readable.below).prim-count
        ∙ ap (λ (x : Node). prim_count x.path) (sym (node-read bs n readable))

    pub site-erased : prim_count_in arena n ∷ record_bytes (node_renumbered numbers count (node_in arena n)) ≡ site_bytes h (new_number kept n)
    site-erased =
        let x = node_at g.nodes n in
        (λ i. prim-same i ∷ record_bytes (node_renumbered numbers count (node-same i)))
        ∙ (λ i. prim_count x.path ∷ record_bytes (changed x.flags (link-same x.parent i) (link-same x.origin i) x.path x))
        ∙ ap (λ (y : Node). prim_count y.path ∷ record_bytes y) (sym (node-erased kept g n (omega (arith, sized)) k))
