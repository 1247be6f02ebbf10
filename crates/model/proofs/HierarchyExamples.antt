-- Ancestors, class hierarchies and copies under the local root, on one graph; the oracle gives the
-- same answers (the stored examples of `calls`). Assumes nothing.
use Rattle.std.specs.Prelude.{Some}
use mathlib.Core.Path.{◌≡◌, refl}
use mathlib.Core.Bool.{true, false}
use mathlib.Core.List.{[], ◌∷◌}
use Rattle.model.specs.Path.{is_name_start, well_formed, prim_count, same_path}
use Rattle.model.specs.Node.{invalid, same_site}
use Rattle.model.specs.Graph.{Graph, with_node, is_local_root, depth_below_introduction}
use Rattle.model.specs.Calls.{init_root, add_child}
use Rattle.model.specs.Strength.{View, view, is_propagated_specializes, replaced, starting_node_of_class_hierarchy}
use Rattle.model.specs.Hierarchy.{is_ancestor_of, topmost_class_node, get_propagated_specializes_node}
use Rattle.model.proofs.ExampleGraphs.{from, line, plain, add}

-- under the local root 1, Reference 2 with Specialize 3, and 4, a copy of 3
abbrev copied : Graph
copied = from (line (plain 1 4 "/R" ∷ plain 2 6 "/S" ∷ add 1 6 0 0 3 (Some 1) 0 "/S" ∷ []))

abbrev seen : View
seen = view copied.nodes

ancestors : (is_ancestor_of seen 2 3 ≡ true) × (is_ancestor_of seen 3 3 ≡ true) × (is_ancestor_of seen 1 3 ≡ false) × (is_ancestor_of seen 2 4 ≡ false)
unfolding init_root add_child with_node well_formed is_name_start is_local_root is_ancestor_of
ancestors = (refl, refl, refl, refl)

copies : (get_propagated_specializes_node copied 3 ≡ 4) × (get_propagated_specializes_node copied 2 ≡ invalid)
unfolding init_root add_child with_node well_formed is_name_start is_local_root is_propagated_specializes same_path same_site get_propagated_specializes_node
copies = (refl, refl)

-- of 4, which is replaced by 3: it starts at 2, its topmost class is 3; 2 itself is no class's
-- instance
hierarchies : (starting_node_of_class_hierarchy seen 4 ≡ 2) × (topmost_class_node seen 4 ≡ 3) × (topmost_class_node seen 2 ≡ invalid)
unfolding init_root add_child with_node well_formed is_name_start is_local_root prim_count same_path same_site is_propagated_specializes replaced depth_below_introduction starting_node_of_class_hierarchy topmost_class_node
hierarchies = (refl, refl, refl)
