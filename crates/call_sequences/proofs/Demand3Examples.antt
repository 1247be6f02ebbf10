-- Sixteen calls, three of them refused, run by computation at the graph; and of every arena without
-- a node that is not marked shallow, that it holds this graph after them (`sample-arena`). It is
-- ordered, finalized and has a node to erase, so every clause of demand 3 says something of it. An
-- arena that its snapshot is read into and one that is seeded from it are starts (`sample-read`,
-- `sample-seeded`). Assumes nothing.
use Rattle.std.specs.Prelude.{None, Option, Some}
use Rattle.model.specs.declared.NodeId.{NodeId}
use mathlib.Core.Path.{◌≡◌, refl, sym, ap, subst, ◌∙◌}
use mathlib.Core.Bool.{Bool, true, false}
use mathlib.Core.List.{List, [], ◌∷◌, map}
use Prim.Native.Nat.{ℕ, ◌<◌}
use native.Mathlib.Omega.{arith}
use lib.Dec.{ltb}
use lib.ListN.{replicate}
use borrow.Author.Tests.{ltb-true}
use Rattle.model.specs.Lists.{every, filter}
use Rattle.model.specs.Path.{is_name_start, is_word_byte, well_formed, prim_count, before_name, name_start, last_name, ends_in_name, separator, append_name, path_at_intro_depth}
use Rattle.model.specs.Graph.{Graph, empty_graph, size, node_at, with_node, depth_below_introduction, path_at_introduction, is_local_root, in_local_stack}
use Rattle.model.specs.Strength.{arc_rank, smaller, plain_lines, sibling_lines, nodes_by, compare_sibling_node_strength}
use Rattle.model.specs.Order.{is_stronger, has_order}
use Rattle.model.specs.Order as order
use Rattle.model.specs.Culling.{keeps_inherit, can_cull, cull_subtrees_without_opinions, is_marked, is_erasable}
use Rattle.model.specs.Erasing.{stays, can_erase, erasable, new_number}
use Rattle.model.specs.Deepening.{deepen}
use Rattle.model.specs.Snapshot.{write_snapshot, read_snapshot}
use Rattle.model.specs.Calls.{Outcome, init_root, add_child, finalize_strength_order, cull, erase_set, append_child_name, seed_child, read_into, mark, set_first_spec, set_has_specs, set_restriction_depth}
use Rattle.model.specs.Setting.{with_record}
use Rattle.model.specs.Arena.{count_in, decode, holds_graph}
use Rattle.model.specs.ArenaCalls.{arena_after}
use Rattle.model.proofs.Text.{bytes}
use Rattle.laws.specs.Demand3Clauses.{Deepened}
use Rattle.laws.proofs.SnapshotLaws.{written-bytes}
use Rattle.laws.proofs.ListLaws.{all-imp, every-all}
use Rattle.snapshot.proofs.ReadBack.{written-reads-back}
use Rattle.call_sequences.proofs.KeepEncodable.{Arena, arena-encodable, ArenaOf}
use Rattle.call_sequences.specs.Demand3.{Below, Slice, NodeFits, DepthFits, Write, starting, adding, ordering, culling, erasing, deepening, reading, marking, setting_first_spec, setting_has_specs, setting_restriction, step, steps, Lent, seeding, Start, empty, read, seeded, rest, Demand3}
use Rattle.call_sequences.proofs.StepGraphs.{graph_steps, into-whole, steps-arena}
use Rattle.call_sequences.proofs.ReachedArenas.{no_node, seed-whole}
use Rattle.call_sequences.proofs.Demand3Proof.{demand3}

-- ---- The calls

abbrev slice : (bs : List ℕ) → every (λ b. ltb b 256) bs ≡ true → Slice
slice bs e = record {
  bytes = bs;
  each = all-imp (λ b. ltb b 256 ≡ true) (λ b. b < 256) bs (λ b. ltb-true b 256) ((every-all (λ b. ltb b 256) bs).0 e);
}

abbrev number : {m : ℕ} (n : ℕ) → ltb n m ≡ true → Below m
number {m} n e = record { number = n; small = ltb-true n m e }

-- a node of stack 0 without flags, with its parent for origin
abbrev add : (parent : Option NodeId) (arc has_specs : ℕ) (depth : Option ℕ) → NodeFits parent × (arc < 256) × (has_specs < 256) × DepthFits depth
    → Slice → Write
add parent arc has_specs depth fits path = adding (record {
  arc = arc;
  flags = 0;
  stack = 0;
  layer = 0;
  parent = parent;
  origin = None;
  depth = depth;
  sibling = 0;
  restriction = 0;
  spec_from = 0;
  has_specs = has_specs;
}) (record {
  arc = fits.1;
  flags = omega arith;
  stack = omega arith;
  layer = omega arith;
  parent = fits.0;
  origin = tt;
  depth = fits.3;
  sibling = omega arith;
  restriction = omega arith;
  spec-from = omega arith;
  has-specs = fits.2;
}) path

-- the local root
abbrev local : Option NodeId
local = Some (record { 0 = 1 })

-- Nodes 0 and 1 `/M/a`; under 1 the References 2 and 3, of which 2 has no specs, and the Inherit 4.
-- Culling marks 2. An erase set with node 1, the parent of the others, is refused 11, bytes that
-- are no snapshot 12, and CULLED on the local root 6.
unfoldable sample : List Write
sample =
    starting (number 0 refl) (number 0 refl) (slice (bytes "/M/a") refl)
    ∷ add None 0 1 None (tt, omega arith, omega arith, tt) (slice (bytes "/M/a") refl)
    ∷ add local 4 0 (Some 1) (omega arith, omega arith, omega arith, omega arith) (slice (bytes "/R/a") refl)
    ∷ add local 4 1 (Some 1) (omega arith, omega arith, omega arith, omega arith) (slice (bytes "/Q/a") refl)
    ∷ add local 1 1 (Some 1) (omega arith, omega arith, omega arith, omega arith) (slice (bytes "/C/a") refl)
    ∷ ordering
    ∷ culling
    ∷ erasing (slice (0 ∷ 1 ∷ replicate 1022 0) refl)
    ∷ deepening (slice (bytes "/b") refl)
    ∷ reading (slice (bytes "no snapshot") refl)
    ∷ marking (number 3 refl) (number 5 refl)
    ∷ marking (number 1 refl) (number 2 refl)
    ∷ setting_first_spec (number 4 refl) (Some (number 2 refl))
    ∷ setting_first_spec (number 2 refl) None
    ∷ setting_has_specs (number 3 refl) true
    ∷ setting_restriction (number 1 refl) (number 1 refl)
    ∷ []

-- ---- The graph, by computation

record SampleCalls (g : Graph) : Type 0 where
  pub some-node : 0 < size g
  pub ordered : g.ordered ≡ true
  pub finalized : g.finalized ≡ true
  pub order : g.order ≡ 0 ∷ 1 ∷ 4 ∷ 2 ∷ 3 ∷ []
  pub one-goes : (stays (erasable g) 1 ≡ true) × (stays (erasable g) 2 ≡ false) × (stays (erasable g) 3 ≡ true) × (stays (erasable g) 4 ≡ true)
  pub order-left : map (new_number (stays (erasable g))) (filter (stays (erasable g)) g.order) ≡ 0 ∷ 1 ∷ 3 ∷ 2 ∷ []
  -- what was set
  pub flags-set : ((node_at g.nodes 3).flags ≡ 5) × ((node_at g.nodes 1).flags ≡ 0)
  pub specs-set : ((node_at g.nodes 4).spec_from ≡ 2) × ((node_at g.nodes 4).has_specs ≡ 1) × ((node_at g.nodes 2).has_specs ≡ 0)
  pub restriction-set : (node_at g.nodes 1).restriction ≡ 1

-- no node, and not shallow
abbrev bare : Bool → Bool → Graph
bare ordered finalized = record { nodes = []; children = []; order = []; ordered = ordered; finalized = finalized; shallow = false }

sample-graph : (ordered finalized : Bool) → SampleCalls (graph_steps sample (bare ordered finalized))
unfolding sample init_root add_child finalize_strength_order cull mark set_first_spec set_has_specs set_restriction_depth erase_set can_erase append_child_name read_into read_snapshot with_node with_record well_formed prim_count is_name_start is_word_byte
    before_name name_start last_name ends_in_name separator append_name path_at_intro_depth depth_below_introduction path_at_introduction is_local_root
    in_local_stack arc_rank smaller plain_lines sibling_lines nodes_by compare_sibling_node_strength has_order order.ordering is_stronger keeps_inherit can_cull
    cull_subtrees_without_opinions is_marked is_erasable erasable deepen
sample-graph ordered finalized = record {
  some-node = omega arith;
  ordered = refl;
  finalized = refl;
  order = refl;
  one-goes = (refl, refl, refl, refl);
  order-left = refl;
  flags-set = (refl, refl);
  specs-set = (refl, refl, refl);
  restriction-set = refl;
}

seed-accepted : (ordered finalized : Bool) → (seed_child (bytes "/c") (graph_steps sample (bare ordered finalized)) empty_graph).refused ≡ 0
unfolding sample init_root add_child finalize_strength_order cull mark set_first_spec set_has_specs set_restriction_depth erase_set can_erase append_child_name seed_child read_into read_snapshot with_node with_record well_formed prim_count is_name_start
    is_word_byte before_name name_start last_name ends_in_name separator append_name path_at_intro_depth depth_below_introduction path_at_introduction
    is_local_root in_local_stack arc_rank smaller plain_lines sibling_lines nodes_by compare_sibling_node_strength has_order order.ordering is_stronger keeps_inherit
    can_cull cull_subtrees_without_opinions deepen
seed-accepted ordered finalized = refl

-- ---- The arena after them, and demand 3 of it

-- from an empty arena that is not marked shallow; the other marks go where node 0 is made
module _ (bs : List ℕ) (lent : Lent bs) (holds : holds_graph bs ≡ true) (no-nodes : count_in bs ≡ 0) (deep : (decode bs).shallow ≡ false) where
  arena : Arena bs
  arena = record { bytes = lent.bytes; opened = record { whole = lent.whole; holds = holds } }

  abbrev start : Graph
  start = bare (decode bs).ordered (decode bs).finalized

  start-bare : decode bs ≡ start
  start-bare =
      let held = no_node bs arena no-nodes in
      λ i. record {
        nodes = held.no-nodes i;
        children = held.no-children i;
        order = held.no-order i;
        ordered = (decode bs).ordered;
        finalized = (decode bs).finalized;
        shallow = deep i;
      }

  after : ArenaOf (graph_steps sample start) (steps sample bs)
  after = subst (λ (g : Graph). ArenaOf (graph_steps sample g) (steps sample bs)) start-bare (steps-arena sample bs arena)

  sample-arena : SampleCalls (decode (steps sample bs))
  sample-arena = subst SampleCalls (sym after.graph) (sample-graph (decode bs).ordered (decode bs).finalized)

  sample-demand : Demand3 (steps sample bs)
  sample-demand = demand3 bs (empty lent holds no-nodes) sample

  -- the list without node 2, the rest renumbered
  sample-erased : (decode (rest (steps sample bs))).order ≡ 0 ∷ 1 ∷ 3 ∷ 2 ∷ []
  sample-erased = ((sample-demand.erased sample-arena.some-node).list-stands sample-arena.ordered).1 ∙ sample-arena.order-left

  sample-deepened : (child : Slice) → Deepened (decode (steps sample bs)) (decode (step (deepening child) (steps sample bs)))
  sample-deepened = sample-demand.deepened sample-arena.finalized

  -- ---- The other starts, in an arena of any content

  module _ (into : List ℕ) (room : Lent into) where
    abbrev snapshot : Slice
    snapshot = record {
      bytes = write_snapshot (decode (steps sample bs));
      each = written-bytes (decode (steps sample bs)) (arena-encodable (steps sample bs) after.arena).fit;
    }

    sample-read : Start (step (reading snapshot) into)
    sample-read =
        let opened = after.arena.opened in
        read snapshot into room
        (ap (λ (o : Outcome). o.refused) (into-whole (read_into snapshot.bytes empty_graph) into room.whole)
        ∙ (written-reads-back (steps sample bs) after.arena.bytes opened.whole opened.holds).accepted) refl

    abbrev child : Slice
    child = slice (bytes "/c") refl

    sample-seeded : Start (arena_after (seeding child (steps sample bs) into) into)
    sample-seeded =
        seeded bs sample child into (empty lent holds no-nodes) room
        (ap (λ (o : Outcome). o.refused) (seed-whole child (steps sample bs) into after.arena.opened room.whole)
        ∙ ap (λ (g : Graph). (seed_child (bytes "/c") g empty_graph).refused) after.graph ∙ seed-accepted (decode bs).ordered (decode bs).finalized) refl
