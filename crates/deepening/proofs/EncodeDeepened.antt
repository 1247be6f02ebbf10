-- The deepened graph of an arena by its parts: its links and its local root are those that are
-- there, each node is the old one with the name appended (`node-there`). So in the arena that holds
-- the graph, encoding the deepened one is to store its marks and its sites: `encode-deepened`.
-- Assumes nothing.
use mathlib.Core.Path.{◌≡◌, refl, sym, ap, subst, ◌∙◌}
use mathlib.Core.Logic.{◌⊎◌, inl, inr}
use mathlib.Core.Bool.{Bool, true, false, cond, and-eq-true_iff}
use mathlib.Core.List.{List, [], ◌∷◌, ◌++◌}
use Prim.Native.Nat.{ℕ, zero, suc, ◌+◌, ◌≤◌, ◌<◌}
use native.Mathlib.Omega.{arith}
use lib.Dec.{eqb, leb}
use Rattle.model.specs.Bytes.{stored}
use Rattle.model.specs.Calls.{short_paths}
use Rattle.model.specs.Deepening.{deepened, deepen}
use Rattle.model.specs.Node.{Node}
use Rattle.model.specs.Graph.{Graph, size, node_at, children_of}
use Rattle.model.specs.Path.{prim_count, append_name}
use Rattle.model.specs.Refusals.{most_path_bytes, path_bytes}
use Rattle.model.specs.Snapshot.{big_endian, record_bytes}
use Rattle.model.specs.Arena.{slot_at, count_in, finalized_in, shallow_in, node_in, first_of, last_of, after_in, local_root_below, local_root_of, link_bytes, site_bytes, slot_stored, decode, encode}
use Rattle.model.specs.ArenaCalls.{ValidNode}
use Rattle.laws.proofs.BigEndianLaws.{Bytes}
use Rattle.laws.proofs.DeepenLaws.{size-deepened, node-deepened}
use Rattle.laws.proofs.LegalAlike.{short-paths}
use Rattle.laws.proofs.Views.{SameButPaths, local-root-same}
use Rattle.arena.specs.Header.{marks_stored}
use Rattle.arena.proofs.Encodable.{Encodable}
use Rattle.arena.proofs.EncodeSteps.{SlotRun, marked-length, marked-behind, links-there, encode-run-kept}
use Rattle.arena.proofs.HeldArenas.{held}
use Rattle.arena.proofs.HeldEncodable.{held-encodable}
use Rattle.arena.proofs.ReadNodes.{sizes, has-path, node-read}
use Rattle.deepening.specs.Deepened.{CanDeepen, CanJoin, AllJoin, order_kept, sites_deepened}
use Rattle.deepening.proofs.DeepenedSites.{SameFrom, same-node, same-join, deepened_site, sites-run}

module _ (bs name : List ℕ) (bytes : Bytes bs) (can : CanDeepen bs name) where
  abbrev g : Graph
  g = decode bs

  abbrev h : Graph
  h = deepen name g

  ok : Encodable g
  ok = held-encodable bs bytes can.opened.whole can.opened.holds

  pub few : count_in bs ≤ 1024
  few = (held bs can.opened.holds).few

  same_size : size g ≡ count_in bs
  same_size = sizes bs can.opened

  pub same_count : size h ≡ count_in bs
  same_count = size-deepened name g ∙ same_size

  -- ---- The nodes

  module _ (n : ℕ) (here : n < count_in bs) where
    readable : ValidNode bs n
    readable = record { opened = can.opened; below = here }

    pub node-there : node_at h.nodes n ≡ deepened name (node_in bs n)
    node-there = node-deepened name g n (omega (arith, same_size)) ∙ ap (deepened name) (node-read bs n readable)

    pub joins : CanJoin bs name n
    joins =
        let read = node-read bs n readable in
        record {
          stands = has-path bs n readable;
          right = rw read at (ok.legal.node n (omega (arith, same_size))).path;
          counted = ((held bs can.opened.holds).node n here).prim-count;
          named = can.named;
          fits = rw node-there at (short-paths h.nodes short n (omega (arith, same_count)));
        }
      where
        short : short_paths h.nodes ≡ true
        short = ((and-eq-true_iff (short_paths h.nodes) (leb (path_bytes h.nodes) most_path_bytes)).0 can.fits).0

    pub same-links : link_bytes h n ≡ link_bytes g n
    unfolding deepen
    same-links =
        ap (λ (p : ℕ). big_endian 4 (first_of (children_of g n)) ++ (big_endian 4 (last_of (children_of g n)) ++ big_endian 4 (after_in n (children_of g p))))
        (ap (λ (x : Node). x.parent) (node-deepened name g n (omega (arith, same_size))))

  pub all_join : AllJoin bs name (count_in bs)
  all_join = record { whole = can.opened.whole; few = few; each = joins }

  same-root-below : (k : ℕ) → k ≤ size g → local_root_below h.nodes k ≡ local_root_below g.nodes k
  same-root-below zero l = refl
  same-root-below (suc k) l =
      λ i. cond (local-root-same (size g) g.nodes h.nodes same_nodes k (omega arith) i) k (same-root-below k (omega arith) i)
    where
      same_nodes : SameButPaths (size g) g.nodes h.nodes
      same_nodes = record { path = λ c. append_name (node_at g.nodes c).path name; same = node-deepened name g }

  pub same-root : local_root_of h.nodes ≡ local_root_of g.nodes
  same-root = ap (local_root_below h.nodes) (size-deepened name g) ∙ same-root-below (size g) (omega arith)

  -- ---- Its own arena

  abbrev pub marked : List ℕ
  marked = marks_stored (order_kept bs) (eqb (finalized_in bs) 1) (eqb (shallow_in bs) 1) bs

  same_from : (n : ℕ) → SameFrom n marked bs
  same_from n a w l =
      marked-behind bs can.opened.whole (order_kept bs) (eqb (finalized_in bs) 1) (eqb (shallow_in bs) 1) a w
      (omega arith)

  pub marked-join : AllJoin marked name (count_in bs)
  marked-join =
      let long = marked-length bs can.opened.whole (order_kept bs) (eqb (finalized_in bs) 1) (eqb (shallow_in bs) 1) in
      record { whole = long; few = few; each = λ n here. same-join marked bs n (same_from n) name long (joins n here) }

  marks-right : marked ≡ marks_stored h.ordered h.finalized h.shallow bs
  unfolding decode deepen
  marks-right = refl

  abbrev done : ℕ → List ℕ
  done k = sites_deepened name k marked

  run : SlotRun done (λ k. slot_at k + 16) (deepened_site marked name) (size g)
  run =
      subst (SlotRun done (λ k. slot_at k + 16) (deepened_site marked name)) (sym same_size)
      (sites-run marked name (count_in bs) marked-join)

  slot-there : (k : ℕ) → k < size g → slot_stored h k (done k) ≡ done (suc k)
  slot-there k below =
      let here : k < count_in bs = omega (arith, same_size) in
      ap (stored (slot_at k + 16) (site_bytes h k))
      (links-there bs bytes can.opened h (size-deepened name g) same-root run marks-right k below
      (same-links k here))
      ∙ ap (λ (x : Node). stored (slot_at k + 16) (prim_count x.path ∷ record_bytes x) (done k))
      (node-there k here ∙ ap (deepened name) (sym (same-node marked bs k (same_from k))))

  -- an order that is kept is there
  order-kept : (h.order ≡ g.order) ⊎ (h.order ≡ [])
  unfolding deepen
  order-kept = go g.finalized
    where
      go : (t : Bool) → (cond t g.order [] ≡ g.order) ⊎ (cond t g.order [] ≡ [])
      go true = inl refl
      go false = inr refl

  pub encode-deepened : sites_deepened name (count_in bs) marked ≡ encode h bs
  encode-deepened =
      ap done (sym same_size)
      ∙ sym (encode-run-kept bs bytes can.opened h (size-deepened name g) same-root run marks-right
      (λ k. omega arith) order-kept slot-there)
