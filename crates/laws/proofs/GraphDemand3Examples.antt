-- A list of calls whose graph meets every hypothesis of demand 3, by computation: it is ordered,
-- finalized, and has a node to erase. Then a start by reading, one by seeding, and an empty one
-- with marks. Assumes nothing.
use Rattle.std.specs.Prelude.{None, Option, Some}
use mathlib.Core.Path.{◌≡◌, refl}
use mathlib.Core.Bool.{true, false, false≢true}
use mathlib.Core.List.{List, [], ◌∷◌}
use Prim.Native.Nat.{ℕ, ◌<◌}
use Prim.Native.String.{String}
use native.Mathlib.Omega.{arith}
use Rattle.model.specs.Path.{is_name_start, is_word_byte, well_formed, prim_count, before_name, name_start, last_name, ends_in_name, separator, append_name, path_at_intro_depth}
use Rattle.model.specs.Node.{invalid, optional, root_arc, inherit_arc}
use Rattle.model.specs.Graph.{Graph, empty_graph, size, node_at, with_node, depth_below_introduction, path_at_introduction, is_local_root, in_local_stack}
use Rattle.model.specs.Strength.{arc_rank, smaller, plain_lines, sibling_lines, nodes_by, compare_sibling_node_strength}
use Rattle.model.specs.Order.{is_stronger, has_order, ordering}
use Rattle.model.specs.Culling.{keeps_inherit, can_cull, cull_subtrees_without_opinions, is_marked, is_erasable}
use Rattle.model.specs.Setting.{with_record}
use Rattle.model.specs.Erasing.{erasable, can_erase, erase_by}
use Rattle.model.specs.Deepening.{deepen}
use Rattle.model.specs.Snapshot.{record_body, write_snapshot, read_record, read_records, read_snapshot}
use Rattle.model.specs.Calls.{Call, starting, adding, orders, culls, deepening, marking, setting_first_spec, setting_has_specs, setting_restriction, call, calls, init_root, add_child, finalize_strength_order, cull, erase_set, append_child_name, seed_child, read_into, mark, set_first_spec, set_has_specs, set_restriction_depth}
use Rattle.model.proofs.Text.{bytes}
use Rattle.model.proofs.ExampleGraphs.{sample_node}
use Rattle.laws.specs.Demand3Clauses.{Listed, kept, Erased, Deepened}
use Rattle.laws.specs.GraphDemand3.{erasing_all, rest, Demand3, Empty, empty, read, seeded}
use Rattle.laws.proofs.LegalGraphs.{empty-marked}
use Rattle.laws.proofs.GraphDemand3Proof.{demand3}

-- a node of stack 0 without flags, with its parent for origin; `invalid` for no parent
abbrev add : ℕ → ℕ → ℕ → Option ℕ → String → Call
add parent arc has_specs depth path =
    adding (record {
      fields = sample_node 0 arc 0 0 0 0 0 has_specs (bytes path);
      parent = optional parent;
      origin = None;
      depth = depth;
    })

-- Nodes 0 and 1 `/M/a`; under 1 the References 2 and 3, of which 2 has no specs, and an Inherit.
-- The second start is refused, and so is the mark of an arc's flag. Culling marks 2.
abbrev grown : List Call
grown =
    starting 0 0 (bytes "/M/a") ∷ starting 0 0 (bytes "/N") ∷ add invalid root_arc 1 None "/M/a" ∷ add 1 4 0 (Some 1) "/R/a"
    ∷ add 1 4 1 (Some 1) "/Q/a" ∷ add 1 inherit_arc 1 (Some 1) "/C/a" ∷ orders ∷ culls ∷ deepening (bytes "/b")
    ∷ marking 3 1 ∷ marking 3 8 ∷ setting_first_spec 4 (Some 2) ∷ setting_has_specs 3 true ∷ setting_restriction 1 1 ∷ []

abbrev example : Graph
example = calls grown empty_graph

-- ---- The hypotheses, and what the erased graph is, by computation

pub record Meets (g : Graph) : Type 0 where
  pub some-node : 0 < size g
  pub ordered : g.ordered ≡ true
  pub finalized : g.finalized ≡ true
  pub order : g.order ≡ 0 ∷ 1 ∷ 4 ∷ 2 ∷ 3 ∷ []
  pub one-goes : (kept g 1 ≡ true) × (kept g 2 ≡ false) × (kept g 3 ≡ true) × (kept g 4 ≡ true)
  pub order-left : (rest g).order ≡ 0 ∷ 1 ∷ 3 ∷ 2 ∷ []
  -- what the setters left
  pub flags-set : (node_at g.nodes 3).flags ≡ 1
  pub specs-set : ((node_at g.nodes 4).spec_from ≡ 2) × ((node_at g.nodes 4).has_specs ≡ 1)
  pub restriction-set : (node_at g.nodes 1).restriction ≡ 1

example-meets : Meets example
unfolding init_root add_child finalize_strength_order cull mark set_first_spec set_has_specs set_restriction_depth erase_set append_child_name with_node with_record well_formed prim_count is_name_start is_word_byte before_name
    name_start last_name ends_in_name separator append_name path_at_intro_depth depth_below_introduction path_at_introduction is_local_root in_local_stack arc_rank smaller
    plain_lines sibling_lines nodes_by compare_sibling_node_strength has_order ordering is_stronger keeps_inherit can_cull cull_subtrees_without_opinions
    is_marked is_erasable erasable can_erase erase_by deepen
example-meets = record {
  some-node = omega arith;
  ordered = refl;
  finalized = refl;
  order = refl;
  one-goes = (refl, refl, refl, refl);
  order-left = refl;
  flags-set = refl;
  specs-set = (refl, refl);
  restriction-set = refl;
}

-- ---- Demand 3 of it

example-demand : Demand3 example
example-demand = demand3 empty_graph (empty empty-marked) grown

example-listed : Listed example
example-listed = example-demand.listed example-meets.ordered

example-erased : Erased example (erasing_all example).refused (erasing_all example).value (rest example)
example-erased = example-demand.erased example-meets.some-node

example-afresh : (ordering (rest example)).order ≡ 0 ∷ 1 ∷ 3 ∷ 2 ∷ []
example-afresh = rw (example-erased.afresh example-meets.ordered).anew example-meets.order-left

example-deepened : Deepened example (call (deepening (bytes "/d")) example).graph
example-deepened = example-demand.deepened example-meets.finalized (bytes "/d")

-- ---- The other starts: a graph read back, which a list of calls then orders, and one seeded, still finalized

abbrev read_back : Graph
read_back = (read_into (write_snapshot example) empty_graph).graph

abbrev seeded_from : Graph
seeded_from = (seed_child (bytes "/c") example empty_graph).graph

pub record Starts : Type 0 where
  pub read-accepted : (read_into (write_snapshot example) empty_graph).refused ≡ 0
  pub read-ordered : (calls (orders ∷ []) read_back).order ≡ 0 ∷ 1 ∷ 4 ∷ 2 ∷ 3 ∷ []
  pub seed-accepted : (seed_child (bytes "/c") example empty_graph).refused ≡ 0
  pub seed-finalized : seeded_from.finalized ≡ true

starts : Starts
unfolding init_root add_child finalize_strength_order cull mark set_first_spec set_has_specs set_restriction_depth append_child_name seed_child read_into with_node with_record well_formed prim_count is_name_start is_word_byte
    before_name name_start last_name ends_in_name separator append_name path_at_intro_depth depth_below_introduction path_at_introduction is_local_root
    in_local_stack arc_rank smaller plain_lines sibling_lines nodes_by compare_sibling_node_strength has_order ordering is_stronger keeps_inherit can_cull
    cull_subtrees_without_opinions deepen record_body write_snapshot read_record read_records read_snapshot
starts = record { read-accepted = refl; read-ordered = refl; seed-accepted = refl; seed-finalized = refl }

read-demand : Demand3 (calls (orders ∷ []) read_back)
read-demand = demand3 read_back (read (write_snapshot example) empty_graph starts.read-accepted refl) (orders ∷ [])

seeded-demand : Demand3 seeded_from
seeded-demand = demand3 seeded_from (seeded empty_graph empty_graph grown (bytes "/c") (empty empty-marked) starts.seed-accepted refl) []

-- ---- An empty start with marks: ordered without being finalized, and shallow, which stays

abbrev marked : Graph
marked = record { nodes = []; children = []; order = []; ordered = true; finalized = false; shallow = true }

marked_empty : Empty marked
marked_empty = record { no-nodes = refl; no-children = refl; no-order = refl; final = λ e. absurd (false≢true e) }

abbrev started : List Call
started = starting 0 0 (bytes "/M") ∷ []

pub record FromMarked : Type 0 where
  pub refused : (call orders marked).refused ≡ 3
  pub start-keeps-shallow : ((calls started marked).ordered ≡ false) × ((calls started marked).shallow ≡ true)
  pub never-finalized : (calls (orders ∷ []) (calls started marked)).finalized ≡ false
  pub ordered : (calls (orders ∷ []) (calls started marked)).order ≡ 0 ∷ []

from-marked : FromMarked
unfolding init_root finalize_strength_order with_node well_formed is_name_start is_word_byte has_order ordering
from-marked = record { refused = refl; start-keeps-shallow = (refl, refl); never-finalized = refl; ordered = refl }

marked-listed : Listed marked
marked-listed = (demand3 marked (empty marked_empty) []).listed refl

marked-demand : Demand3 (calls (orders ∷ []) (calls started marked))
marked-demand = demand3 marked (empty marked_empty) (starting 0 0 (bytes "/M") ∷ orders ∷ [])
