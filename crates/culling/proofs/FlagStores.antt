-- In an arena that holds a graph, encoding the culled graph is to store the flags of each node,
-- since all else is there: `encode-culled`; and with no local root nothing is to be stored:
-- `encode-empty`, `encode-unrooted`. Assumes nothing.
use mathlib.Core.Path.{◌≡◌, refl, sym, ap, ◌∙◌}
use mathlib.Core.Logic.{inl}
use mathlib.Core.Bool.{false, not}
use mathlib.Core.List.{List, ◌∷◌, ◌++◌}
use Prim.Native.Nat.{ℕ, suc, ◌+◌, ◌≤◌, ◌<◌}
use native.Mathlib.Omega.{arith}
use lib.ListN.{length, take, drop, get_or}
use lib.Seq.{take-length}
use borrow.Author.Tests.{eq-eqb}
use Rattle.model.specs.Bytes.{stored}
use Rattle.model.specs.Lists.{any_below}
use Rattle.model.specs.Path.{prim_count}
use Rattle.model.specs.Node.{Node, changed}
use Rattle.model.specs.Graph.{Graph, size, node_at, children_of, is_local_root, has_local_root}
use Rattle.model.specs.Strength.{View}
use Rattle.model.specs.Snapshot.{big_endian, record_body, record_bytes}
use Rattle.model.specs.Arena.{slot_at, count_in, first_of, last_of, after_in, link_bytes, site_bytes, slot_stored, local_root_in, local_root_of, decode, encode}
use Rattle.model.specs.ArenaCalls.{ValidArena}
use Rattle.model.specs.Culling.{cull_subtrees_without_opinions}
use Rattle.laws.proofs.BigEndianLaws.{Bytes}
use Rattle.laws.proofs.StoredLaws.{stored-middle}
use Rattle.laws.proofs.CullingLaws.{OnlyCulled, culling-only-culls, culling-keeps-view}
use Rattle.arena.specs.Header.{marks_stored}
use Rattle.arena.specs.Slot.{flags_stored}
use Rattle.arena.proofs.Encodable.{Encodable}
use Rattle.arena.proofs.ArenaParts.{site-short}
use Rattle.arena.proofs.ArenaBack.{encode-decode}
use Rattle.arena.proofs.EncodeSteps.{HasParts, held-parts, marks-there, SlotRun, run_length, slot-before, links-there, encode-run-kept}
use Rattle.arena.proofs.HeldEncodable.{held-encodable}
use Rattle.arena.proofs.ReadNodes.{sizes, root-found, root_kept, root-held}
use Rattle.culling.specs.Culled.{HasFlagsFrom, flags_written}

-- ---- A site

-- a node that is culled has other flags only
flagged : (x y : Node) → OnlyCulled x y → y ≡ changed y.flags x.parent x.origin x.path x
flagged x y same = λ i. record {
  arc = same.arc i;
  flags = y.flags;
  stack = same.stack i;
  layer = same.layer i;
  parent = same.parent i;
  origin = same.origin i;
  depth = same.depth i;
  sibling = same.sibling i;
  restriction = same.restriction i;
  spec_from = same.spec-from i;
  has_specs = same.has-specs i;
  path = same.path i;
}

-- ---- The graph

module _ (bs : List ℕ) (bytes : Bytes bs) (o : ValidArena bs) where
  abbrev g : Graph
  g = decode bs

  abbrev h : Graph
  h = cull_subtrees_without_opinions g

  ok : Encodable g
  ok = held-encodable bs bytes o.whole o.holds

  few : size g ≤ 1024
  few = ok.legal.few-nodes

  parts : HasParts g bs
  parts = held-parts bs bytes o

  same_size : size h ≡ size g
  same_size = (culling-only-culls g).same_length

  same-root : local_root_of h.nodes ≡ local_root_of g.nodes
  same-root = root_kept g.nodes h.nodes same_size (λ n. ap (λ (u : View). u.local_root n) (culling-keeps-view g))

  same-order : h.order ≡ g.order
  unfolding cull_subtrees_without_opinions
  same-order = refl

  same-marks : bs ≡ marks_stored h.ordered h.finalized h.shallow bs
  unfolding cull_subtrees_without_opinions
  same-marks = marks-there bs bytes o

  same-links : (k : ℕ) → link_bytes h k ≡ link_bytes g k
  unfolding cull_subtrees_without_opinions
  same-links k =
      ap (λ (p : ℕ). big_endian 4 (first_of (children_of g k)) ++ (big_endian 4 (last_of (children_of g k)) ++ big_endian 4 (after_in k (children_of g p))))
      ((culling-only-culls g).node k).parent

  module _ (flags : List ℕ) (found : HasFlagsFrom bs 0 flags) where
    abbrev done : ℕ → List ℕ
    done k = flags_written flags k bs

    abbrev byte : ℕ → List ℕ
    byte k = big_endian 1 (get_or flags k 0)

    run : SlotRun done (λ k. slot_at k + 20) byte (size g)
    run = record { whole = o.whole; few = few; step = λ k. refl; low = λ k. omega arith; high = λ k l. omega arith }

    module _ (k : ℕ) (here : k < size g) where
      -- what lies in slot k is as it was
      untouched : (a w : ℕ) → slot_at k ≤ a → take w (drop a (done k)) ≡ take w (drop a bs)
      untouched = slot-before bs bytes o h same_size same-root run same-marks k here

      site-flags : stored (slot_at k + 16) (site_bytes h k) (done k) ≡ flags_stored k (node_at h.nodes k).flags (done k)
      unfolding record_body
      site-flags =
          let y = node_at h.nodes k in
          let front = take 4 (site_bytes g k) in
          let rest = drop 5 (site_bytes g k) in
          let short = site-short g ok k here in
          let long : length (site_bytes g k) ≡ 5 + length rest = omega arith in
          ap (λ (x : Node). stored (slot_at k + 16) (prim_count x.path ∷ record_bytes x) (done k))
          (flagged (node_at g.nodes k) y ((culling-only-culls g).node k))
          ∙ stored-middle (slot_at k + 16) (slot_at k + 20) (slot_at k + 21) front (big_endian 1 y.flags) rest (done k)
          (omega arith) (omega arith) (omega (arith, run_length run k (omega arith), few))
          (untouched (slot_at k + 16) 4 (omega arith) ∙ parts.site-part k here 0 4 (omega arith))
          (untouched (slot_at k + 21) (length rest) (omega arith) ∙ parts.site-part k here 5 (length rest) (omega arith)
          ∙ take-length rest)

      slot-flags : slot_stored h k (done k) ≡ done (suc k)
      slot-flags =
          ap (stored (slot_at k + 16) (site_bytes h k))
          (links-there bs bytes o h same_size same-root run same-marks k here (same-links k))
          ∙ site-flags
          ∙ ap (λ (f : ℕ). flags_stored k f (done k)) (sym (found k (omega arith) (omega (arith, sizes bs o))))

    pub encode-culled : (count : ℕ) → count ≡ count_in bs → flags_written flags count bs ≡ encode h bs
    encode-culled count counted =
        ap done (counted ∙ sym (sizes bs o))
        ∙ sym (encode-run-kept bs bytes o h same_size same-root run same-marks (λ k. omega arith) (inl same-order)
        slot-flags)

  -- ---- With no local root

  unchanged : has_local_root g.nodes ≡ false → bs ≡ encode h bs
  unfolding cull_subtrees_without_opinions
  unchanged none =
      let same : h ≡ g = rw none in
      sym (ap (λ (x : Graph). encode x bs) same ∙ encode-decode bs bytes o.whole o.holds)

  pub encode-empty : count_in bs ≡ 0 → bs ≡ encode h bs
  encode-empty z = unchanged (ap (any_below (is_local_root g.nodes)) (sizes bs o ∙ z))

  pub encode-unrooted : 0 < count_in bs → local_root_in bs ≡ 0 → bs ≡ encode h bs
  encode-unrooted some z =
      unchanged (sym (root-found g.nodes (size g)) ∙ ap not (eq-eqb (local_root_of g.nodes) 0 (sym (root-held bs o some) ∙ z)))
