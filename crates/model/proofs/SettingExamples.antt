-- What is set of one node, what is read of its introduction, and a given number that no node has,
-- by computation. Assumes nothing.
use Rattle.std.specs.Prelude.{None, Option, Some}
use mathlib.Core.Path.{◌≡◌, refl}
use mathlib.Core.Bool.{true, false}
use mathlib.Core.List.{List, [], ◌∷◌, ◌++◌}
use Prim.Native.Nat.{ℕ}
use Rattle.model.proofs.Text.{bytes}
use Rattle.model.proofs.ExampleGraphs.{sample_node, from, four, deep}
use Rattle.model.specs.Path.{is_name_start, is_word_byte, well_formed, prim_count, before_name, name_start, path_at_intro_depth}
use Rattle.model.specs.Node.{invalid, Node}
use Rattle.model.specs.Graph.{Graph, empty_graph, node_at, with_node, is_local_root, depth_below_introduction, is_due_to_ancestor, intro_path}
use Rattle.model.specs.Setting.{with_flags, with_record}
use Rattle.model.specs.Strength.{arc_rank, smaller, plain_lines, sibling_lines, nodes_by, compare_sibling_node_strength}
use Rattle.model.specs.Order.{is_stronger, has_order, ordering}
use Rattle.model.specs.Calls.{Call, orders, adding, marking, setting_first_spec, setting_has_specs, setting_restriction, call, init_root, add_child, finalize_strength_order, mark, set_first_spec, set_has_specs, set_restriction_depth}

-- ---- Flags joined by or

joined : (with_flags 5 0 ≡ 5) × (with_flags 5 9 ≡ 13) × (with_flags 7 255 ≡ 255) × (with_flags 0 240 ≡ 240) × (with_flags 2 1 ≡ 3)
joined = (refl, refl, refl, refl, refl)

-- ---- The setters, on the four

abbrev after : Call → Graph
after c = (call c (from four)).graph

abbrev refused : Call → ℕ
refused c = (call c (from four)).refused

pub record Marks : Type 0 where
  pub one : (node_at (after (marking 2 5)).nodes 2).flags ≡ 5
  pub others : node_at (after (marking 2 5)).nodes 3 ≡ node_at (from four).nodes 3
  -- HAS_SPECIALIZES and higher bits may not be given, nor CULLED at a Root arc
  pub arc-flag : refused (marking 2 8) ≡ 6
  pub high_bit : refused (marking 2 128) ≡ 6
  pub culled-root : (refused (marking 0 2) ≡ 6) × (refused (marking 1 2) ≡ 6) × (refused (marking 1 5) ≡ 0)
  pub no-such-node : refused (marking 4 8) ≡ 4
  pub no_node : (call (marking 0 1) empty_graph).refused ≡ 3

marks : Marks
unfolding init_root add_child mark with_node with_record well_formed prim_count is_name_start is_word_byte is_local_root
marks = record {
  one = refl;
  others = refl;
  arc-flag = refl;
  high_bit = refl;
  culled-root = (refl, refl, refl);
  no-such-node = refl;
  no_node = refl;
}

abbrev specs : Node → List ℕ
specs x = x.spec_from ∷ x.has_specs ∷ []

pub record Specs : Type 0 where
  pub first : specs (node_at (after (setting_first_spec 2 (Some 7))).nodes 2) ≡ 7 ∷ 1 ∷ []
  -- where there is none the position is 0
  pub none_left : specs (node_at (call (setting_first_spec 2 None) (after (setting_first_spec 2 (Some 7)))).graph.nodes 2) ≡ 0 ∷ 0 ∷ []
  pub has : specs (node_at (call (setting_has_specs 2 true) (after (setting_first_spec 2 (Some 7)))).graph.nodes 2) ≡ 0 ∷ 1 ∷ []
  pub has-none : specs (node_at (after (setting_has_specs 2 false)).nodes 2) ≡ 0 ∷ 0 ∷ []
  pub restriction : (node_at (after (setting_restriction 2 65535)).nodes 2).restriction ≡ 65535
  pub depth-stays : (node_at (after (setting_restriction 2 65535)).nodes 2).depth ≡ (node_at (from four).nodes 2).depth

specs-set : Specs
unfolding init_root add_child set_first_spec set_has_specs set_restriction_depth with_node with_record well_formed prim_count is_name_start is_word_byte is_local_root
specs-set = record { first = refl; none_left = refl; has = refl; has-none = refl; restriction = refl; depth-stays = refl }

-- an ordered graph stays ordered and finalized
abbrev ordered : Graph
ordered = from (four ++ orders ∷ marking 2 1 ∷ setting_first_spec 3 None ∷ setting_has_specs 3 true ∷ setting_restriction 1 2 ∷ [])

stays-ordered : (ordered.ordered ≡ true) × (ordered.finalized ≡ true) × (ordered.order ≡ 0 ∷ 1 ∷ 3 ∷ 2 ∷ [])
unfolding init_root add_child finalize_strength_order mark set_first_spec set_has_specs set_restriction_depth with_node with_record well_formed prim_count
    is_name_start is_word_byte is_local_root has_order ordering is_stronger compare_sibling_node_strength sibling_lines plain_lines nodes_by arc_rank smaller
stays-ordered = (refl, refl, refl)

-- ---- The introduction, under `/M/a` by depth 1 and 3

pub record Introduced : Type 0 where
  pub due : is_due_to_ancestor (from deep).nodes 1 ≡ true
  pub not-due : is_due_to_ancestor (from deep).nodes 2 ≡ false
  pub path : intro_path (from deep).nodes 1 ≡ bytes "/M"
  pub same-path : intro_path (from deep).nodes 2 ≡ bytes "/M/a"
  pub of-node-0 : intro_path (from deep).nodes 0 ≡ bytes "/"

introduced : Introduced
unfolding init_root add_child with_node well_formed prim_count is_name_start is_word_byte before_name name_start is_local_root depth_below_introduction
    intro_path path_at_intro_depth
introduced = record { due = refl; not-due = refl; path = refl; same-path = refl; of-node-0 = refl }

-- ---- A given node is below the count, also where its number is that of no node

abbrev add_under : Option ℕ → Option ℕ → ℕ
add_under parent origin =
    refused (adding (record { fields = sample_node 0 4 0 0 0 0 0 1 (bytes "/R"); parent = parent; origin = origin; depth = None }))

given_below : (add_under (Some invalid) None ≡ 4) × (add_under (Some 1) (Some invalid) ≡ 4) × (add_under (Some 4) None ≡ 4)
    × (add_under (Some 3) (Some 3) ≡ 0) × (add_under None None ≡ 0)
unfolding init_root add_child with_node well_formed prim_count is_name_start is_word_byte is_local_root
given_below = (refl, refl, refl, refl, refl)
