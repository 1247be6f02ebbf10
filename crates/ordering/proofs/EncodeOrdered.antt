-- In an arena that holds a graph, encoding a graph of the same nodes is to store its marks, its
-- links and its order, since the count, the local root and each node's record are there:
-- `encode-same-nodes`. Its links are there too where its lists are those of the arena's graph:
-- `links-there`. Assumes nothing.
use mathlib.Core.Path.{◌≡◌, refl, sym, ap, ◌∙◌}
use mathlib.Core.Logic.{inr}
use mathlib.Core.List.{List, ◌∷◌, ◌++◌}
use Prim.Native.Nat.{ℕ, zero, suc, ◌+◌, ◌≤◌, ◌<◌}
use native.Mathlib.Omega.{arith}
use lib.ListN.{length, take, drop}
use Rattle.model.specs.Bytes.{stored}
use Rattle.model.specs.Node.{Node}
use Rattle.model.specs.Graph.{Graph, size, node_at, children_of}
use Rattle.model.specs.Path.{prim_count}
use Rattle.model.specs.Snapshot.{big_endian, record_bytes}
use Rattle.model.specs.Arena.{slot_at, first_of, last_of, after_in, link_bytes, site_bytes, slot_stored, order_stored, local_root_of, decode, encode}
use Rattle.model.specs.ArenaCalls.{ValidArena}
use Rattle.laws.proofs.BigEndianLaws.{Bytes}
use Rattle.laws.proofs.StoredLaws.{stored_there}
use Rattle.arena.specs.Header.{marks_stored}
use Rattle.arena.proofs.EncodeSteps.{held-parts, site-whole, SlotRun, run-kept, marked-length, marked-behind, encode-run}
use Rattle.arena.proofs.HeldEncodable.{held-encodable}
use Rattle.child_lists.proofs.LinkStores.{links_of, links-run}

module _ (bs : List ℕ) (bytes : Bytes bs) (o : ValidArena bs) (h : Graph) (same : h.nodes ≡ (decode bs).nodes) where
  abbrev g : Graph
  g = decode bs

  few : size g ≤ 1024
  few = (held-encodable bs bytes o.whole o.holds).legal.few-nodes

  abbrev marked : List ℕ
  marked = marks_stored h.ordered h.finalized h.shallow bs

  marks-behind : (a w : ℕ) → 7 ≤ a → take w (drop a marked) ≡ take w (drop a bs)
  marks-behind = marked-behind bs o.whole h.ordered h.finalized h.shallow

  abbrev done : ℕ → List ℕ
  done k = links_of h k marked

  run : SlotRun done slot_at (link_bytes h) (size g)
  run = links-run h (size g) marked few (marked-length bs o.whole h.ordered h.finalized h.shallow)

  same-site : (k : ℕ) → site_bytes g k ≡ site_bytes h k
  same-site k = ap (λ (ns : List Node). prim_count (node_at ns k).path ∷ record_bytes (node_at ns k)) (sym same)

  pub encode-same-nodes : encode h bs ≡ order_stored h.order 0 (links_of h (size g) marked)
  encode-same-nodes = encode-run bs bytes o h (ap length same) (ap local_root_of same) run refl slot
    where
      slot : (k : ℕ) → k < size g → slot_stored h k (done k) ≡ done (suc k)
      slot k here =
          let long = length (site_bytes g k) in
          stored_there (slot_at k + 16) long (site_bytes h k) (done (suc k))
          (run-kept run (slot_at k + 16) long (suc k) (omega arith) (λ m q. inr (omega arith))
          ∙ marks-behind (slot_at k + 16) long (omega arith) ∙ site-whole g bs (held-parts bs bytes o) k here
          ∙ same-site k)

  -- ---- Lists as they were

  pub links-there : ((v : ℕ) → children_of h v ≡ children_of g v) → (k : ℕ) → k ≤ size g → links_of h k marked ≡ marked
  links-there stay zero l = refl
  links-there stay (suc k) l =
      ap (stored (slot_at k) (link_bytes h k)) (links-there stay k (omega arith))
      ∙ stored_there (slot_at k) 12 (link_bytes h k) marked
      (marks-behind (slot_at k) 12 (omega arith) ∙ (held-parts bs bytes o).links k (omega arith) ∙ same_bytes)
    where
      same_bytes : link_bytes g k ≡ link_bytes h k
      same_bytes =
          let there : (v : ℕ) → children_of g v ≡ children_of h v = λ v. sym (stay v) in
          let parent : (node_at g.nodes k).parent ≡ (node_at h.nodes k).parent = ap (λ (ns : List Node). (node_at ns k).parent) (sym same) in
          λ i. big_endian 4 (first_of (there k i)) ++ (big_endian 4 (last_of (there k i)) ++ big_endian 4 (after_in k (there (parent i) i)))
