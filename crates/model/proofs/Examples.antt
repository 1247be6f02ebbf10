-- Document 01's examples: the table of "The bond of each call", point 3, and a graph for each way
-- in which a port goes astray, all by computation. Path's own are in PathExamples.antt, and a line
-- of this table. Assumes nothing.
use Rattle.std.specs.Prelude.{Some}
use mathlib.Core.Path.{◌≡◌, refl}
use mathlib.Core.Bool.{true, false}
use mathlib.Core.List.{[], ◌∷◌, ◌++◌}
use Rattle.model.proofs.Text.{bytes}
use Rattle.model.proofs.PathExamples as path
use Rattle.model.proofs.ExampleGraphs.{add, plain, from, node, siblings, line, four, ring, deep, one_origin, class_depths, root_depths, sibling_numbers, replaced_once, shallow, marked_origin}
use Rattle.std.specs.declared.cmp.Ordering.TheVariants.{Less, Equal, Greater}
use Rattle.model.specs.Path.{is_name_start, is_word_byte, is_selection_byte, well_formed, prim_count, before_name, name_start, last_name, ends_in_name, separator, append_name, path_at_intro_depth, same_path}
use Rattle.model.specs.Node.{invalid, same_site}
use Rattle.model.specs.Graph.{empty_graph, with_node, depth_below_introduction, is_local_root, in_local_stack}
use Rattle.model.specs.Strength.{arc_rank, smaller, is_propagated_specializes, origin_root_node, origin_hops, outward, is_nested_under, origins_are_nested, replaced, starting_node_of_class_hierarchy, skip_relocates, namespace_depth_for_class_hierarchy, class_depth, same_origin_lines, local_line, same_root_lines, origin_lines, depth_line, specializes_lines, plain_lines, sibling_lines, nodes_by, compare_sibling_node_strength, compare_node_strength}
use Rattle.model.specs.Order.{is_stronger, has_order, ordering}
use Rattle.model.specs.Culling.{is_marked, is_erasable}
use Rattle.model.specs.Deepening.{deepen}
use Rattle.model.specs.Snapshot.{record_body, write_snapshot}
use Rattle.model.specs.Listing.{listing}
use Rattle.model.specs.Calls.{orders, deepening, call, init_root, add_child, finalize_strength_order, append_child_name}

-- ---- The table

pub record Table : Type 0 where
  pub paths : path.Table
  pub below_one : depth_below_introduction (from deep).nodes 1 ≡ 1
  pub below_none : depth_below_introduction (from deep).nodes 2 ≡ 0
  pub order-listed : (from (four ++ orders ∷ [])).order ≡ 0 ∷ 1 ∷ 3 ∷ 2 ∷ []
  pub text-listed : listing (from (four ++ orders ∷ [])) ≡ bytes "order 4\n0 L 1 /M\n1 L 1 /M\n3 I 1 /C\n2 R 1 /R\n"
  pub empty-snapshot : write_snapshot empty_graph ≡ 0 ∷ 0 ∷ 0 ∷ 3 ∷ 1 ∷ 0 ∷ 0 ∷ []
  pub itself : node four 2 2 ≡ Equal
  pub deeper-reference : node (line (add 1 4 0 0 invalid (Some 1) 0 "/R" ∷ add 1 4 0 0 invalid (Some 2) 0 "/Q" ∷ [])) 2 3 ≡ Greater
  pub ring-first : siblings ring 3 4 ≡ Less
  pub ring-second : siblings ring 4 5 ≡ Less
  pub ring-third : siblings ring 5 3 ≡ Less
  pub ring-refused : (call orders (from ring)).refused ≡ 9
  pub ring-unchanged : (call orders (from ring)).graph ≡ from ring
  pub implied-stronger : siblings one_origin 4 3 ≡ Less
  pub marked-origin-stays : (is_marked marked_origin 1 ≡ true) × (is_erasable marked_origin 1 ≡ false) × (is_erasable marked_origin 2 ≡ true)
  pub class-depth-smaller : siblings class_depths 2 3 ≡ Less
  pub own-depth : siblings root_depths 3 4 ≡ Greater
  pub node-number : siblings sibling_numbers 3 4 ≡ Less
  pub once-replaced : siblings replaced_once 4 6 ≡ Less
  pub shallow-ordered : ((from (shallow ++ orders ∷ [])).ordered ≡ true) × ((from (shallow ++ orders ∷ [])).finalized ≡ false)
  pub shallow-deepened : ((from (shallow ++ orders ∷ deepening (bytes "/b") ∷ [])).ordered ≡ false)
      × ((from (shallow ++ deepening (bytes "/b") ∷ [])).shallow ≡ true)
  pub finalized-deepened : (from (four ++ orders ∷ deepening (bytes "/b") ∷ [])).ordered ≡ true
  pub adding-clears : (from (four ++ orders ∷ plain 1 4 "/Q" ∷ [])).ordered ≡ false

table : Table
unfolding init_root add_child finalize_strength_order append_child_name with_node well_formed prim_count is_name_start is_word_byte is_selection_byte
    before_name name_start last_name ends_in_name separator append_name path_at_intro_depth same_path same_site depth_below_introduction is_local_root
    in_local_stack arc_rank smaller is_propagated_specializes origin_root_node origin_hops outward is_nested_under origins_are_nested replaced
    starting_node_of_class_hierarchy skip_relocates namespace_depth_for_class_hierarchy class_depth same_origin_lines local_line same_root_lines origin_lines
    depth_line specializes_lines plain_lines sibling_lines nodes_by compare_sibling_node_strength compare_node_strength has_order ordering is_stronger deepen
    is_marked is_erasable listing write_snapshot record_body
table = record {
  paths = path.table;
  below_one = refl;
  below_none = refl;
  order-listed = refl;
  text-listed = refl;
  empty-snapshot = refl;
  itself = refl;
  deeper-reference = refl;
  ring-first = refl;
  ring-second = refl;
  ring-third = refl;
  ring-refused = refl;
  ring-unchanged = refl;
  implied-stronger = refl;
  marked-origin-stays = (refl, refl, refl);
  class-depth-smaller = refl;
  own-depth = refl;
  node-number = refl;
  once-replaced = refl;
  shallow-ordered = (refl, refl);
  shallow-deepened = (refl, refl);
  finalized-deepened = refl;
  adding-clears = refl;
}
