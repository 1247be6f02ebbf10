-- The graph that erasing leaves of what an arena holds: that its child lists in arrays can be
-- linked (`parted`, `linkable`), and its local root (`root-erased`). Assumes nothing.
use mathlib.Core.Path.{◌≡◌, refl, sym, ap, subst, ◌∙◌}
use mathlib.Core.Bool.{Bool, true, false, cond, false≢true, and-false}
use mathlib.Core.List.{List}
use Prim.Native.Nat.{ℕ, zero, suc, ◌+◌, ◌≤◌, ◌<◌}
use native.Mathlib.Nat.{zero-add}
use native.Mathlib.Numerals.{one-add}
use native.Mathlib.Omega.{arith}
use lib.Dec.{ltb}
use borrow.Author.Tests.{lt-ltb, ne_eqb}
use Rattle.model.specs.Lists.{bit}
use Rattle.model.specs.Node.{root_arc, invalid, Node}
use Rattle.model.specs.Graph.{Graph, size, node_at, children_of, is_local_root}
use Rattle.model.specs.Arena.{local_root_in, local_root_below, local_root_of, decode}
use Rattle.model.specs.Erasing.{stays, new_number, erase}
use Rattle.laws.proofs.BigEndianLaws.{Bytes}
use Rattle.laws.proofs.Spares.{Spares}
use Rattle.laws.proofs.EraseSets.{can-erase-iff}
use Rattle.laws.proofs.EraseLists.{new-number-grows}
use Rattle.laws.proofs.EraseLaws.{size-erased, no-children-beyond, node0-links-erased, erase-looks-like, tree-erased}
use Rattle.arena.proofs.Encodable.{Encodable}
use Rattle.arena.proofs.ReadNodes.{sizes, root-held}
use Rattle.child_lists.specs.Links.{Segments, Parted}
use Rattle.child_lists.proofs.SegmentLaws.{tree-parted}
use Rattle.child_lists.proofs.LinkStores.{Linkable}
use Rattle.erasing.specs.EraseRecords.{NumberResult, new_link_in}
use Rattle.erasing.proofs.ErasedRecords as records

root_below : (ns : List Node) (m n : ℕ) → 0 < m → n ≤ m → local_root_below ns n < m
root_below ns m zero some l = some
root_below ns m (suc n) some l = go (is_local_root ns n) (root_below ns m n some (omega arith))
  where
    go : (t : Bool) → local_root_below ns n < m → cond t n (local_root_below ns n) < m
    go true later = omega arith
    go false later = later

module _ (bs set : List ℕ) (count : ℕ) (numbers : List ℕ) (bytes : Bytes bs) (ready : NumberResult bs set count numbers) where
  abbrev g : Graph
  g = decode bs

  abbrev h : Graph
  h = erase set g

  abbrev kept : ℕ → Bool
  kept = stays set

  ok : Encodable g
  ok = records.ok bs set count numbers bytes ready

  size-kept : size h ≡ new_number kept count
  size-kept = records.size-kept bs set count numbers bytes ready

  few : size h ≤ 1024
  few = records.few bs set count numbers bytes ready

  some-node : 0 < size g
  some-node = omega (arith, sizes bs ready.opened, ready.some-node)

  spares : Spares g kept
  spares = ((can-erase-iff g set (ok.legal.node-0 some-node).arc).0 ready.accepted).1

  pub some-kept : 0 < size h
  some-kept = omega (arith, size-erased kept g, new-number-grows kept 0 (size g) spares.node0 some-node)

  -- ---- The child lists

  module _ (lists ends : List ℕ) (segments : Segments (children_of h) (new_number kept count) lists ends) where
    pub linkable : Linkable h lists ends
    linkable = record {
      tree = tree-erased kept g ok.legal.lengths spares ok.legal.links ok.legal.tree;
      few = few;
      alone =
          let root = ok.legal.node-0 some-node in
          ap (children_of h) (node0-links-erased kept g spares some-node ok.legal.few-nodes root.no-parent root.no_origin).0
          ∙ no-children-beyond kept g ok.legal.lengths invalid (omega (arith, few));
      segments = subst (λ (n : ℕ). Segments (children_of h) n lists ends) (sym size-kept) segments;
    }

    pub parted : Parted lists ends (new_number kept count)
    parted =
        subst (Parted lists ends) size-kept
        (tree-parted (size h) _ (children_of h) linkable.tree lists ends linkable.segments few)

  -- ---- The local root

  -- what goes is no local root
  no-root : (k : ℕ) → k < size g → kept k ≡ false → is_local_root g.nodes k ≡ false
  unfolding is_local_root
  no-root k l e = rw (ne_eqb (node_at g.nodes k).arc root_arc (λ r. false≢true (sym e ∙ spares.roots k l r))) (and-false (ltb 0 k))

  root-moves : (k : ℕ) → k ≤ size g → local_root_below h.nodes (new_number kept k) ≡ new_number kept (local_root_below g.nodes k)
  root-moves zero l = refl
  root-moves (suc k) l = go (kept k) refl (root-moves k (omega arith))
    where
      found : (t : Bool) → cond t (new_number kept k) (new_number kept (local_root_below g.nodes k))
          ≡ new_number kept (cond t k (local_root_below g.nodes k))
      found true = refl
      found false = refl

      go : (b : Bool) → kept k ≡ b → local_root_below h.nodes (new_number kept k) ≡ new_number kept (local_root_below g.nodes k)
          → local_root_below h.nodes (bit b + new_number kept k) ≡ new_number kept (cond (is_local_root g.nodes k) k (local_root_below g.nodes k))
      go true e ih =
          let same = (erase-looks-like kept g spares ok.legal.links).local-roots k (omega arith) e in
          rw (one-add (new_number kept k)) ((λ i. cond (same i) (new_number kept k) (ih i)) ∙ found (is_local_root g.nodes k))
      go false e ih = rw (zero-add (new_number kept k), no-root k (omega arith) e) ih

  pub root-erased : new_link_in numbers count (local_root_in bs) ≡ local_root_of h.nodes
  root-erased =
      let held = root-held bs ready.opened ready.some-node in
      let low : local_root_in bs < size g = omega (arith, held, root_below g.nodes (size g) (size g) some-node (omega arith)) in
      records.link-same bs set count numbers bytes ready (local_root_in bs)
      ∙ ap (λ (t : Bool). cond t (new_number kept (local_root_in bs)) (local_root_in bs)) (lt-ltb (local_root_in bs) (size g) low)
      ∙ ap (new_number kept) held ∙ sym (root-moves (size g) (omega arith)) ∙ ap (local_root_below h.nodes) (sym (size-erased kept g))
