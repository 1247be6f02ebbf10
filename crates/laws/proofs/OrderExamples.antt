-- Graphs that meet the hypotheses of OrderLaws.antt: node 0, and under it a Reference, then an
-- Inherit, which is the stronger; and document 01's ring, which has no order. Assumes nothing.
use mathlib.Core.Path.{◌≡◌, refl}
use mathlib.Core.Bool.{true, false}
use mathlib.Core.List.{[], ◌∷◌}
use Prim.Native.Nat.{ℕ, ◌<◌}
use native.Mathlib.Omega.{arith}
use Rattle.model.specs.Node.{inherit_arc, Node, same_site}
use Rattle.model.specs.Path.{same_path, well_formed, prim_count, is_name_start}
use Rattle.model.specs.Graph.{Graph, empty_graph, size, children_of, with_node, is_local_root}
use Rattle.model.specs.Strength.{arc_rank, view_of, smaller, is_propagated_specializes, origin_root_node, outward, is_nested_under, origins_are_nested, same_origin_lines, origin_lines, depth_line, specializes_lines, plain_lines, sibling_lines, nodes_by, compare_sibling_node_strength, compare_node_strength}
use Rattle.model.specs.Order.{is_stronger, has_order, ordering}
use Rattle.model.specs.Calls.{root_node, init_root, add_child}
use Rattle.model.proofs.ExampleGraphs.{from, ring, sample_node}
use Rattle.laws.proofs.SortLaws.{NoOrder, OnlyOrder}
use Rattle.laws.proofs.Trees.{TreeOf, tree-with-node, tree-with-root}
use Rattle.laws.proofs.WalkLaws.{Ordered}
use Rattle.laws.proofs.OrderLaws.{ordering-children, ordering-ordered, has-order-fails, stronger-antisymmetric}

-- a child of node 0
abbrev child : ℕ → Node
child arc = sample_node 0 arc 0 0 0 0 0 1 []

abbrev alone : Graph
alone = with_node empty_graph (root_node 0 0 [])

abbrev family : Graph
family = with_node (with_node alone (child 4)) (child inherit_arc)

family-tree : TreeOf family
unfolding with_node
family-tree =
    tree-with-node (with_node alone (child 4)) (child inherit_arc) refl (omega arith)
    (tree-with-node alone (child 4) refl (omega arith) (tree-with-root empty_graph (root_node 0 0 []) refl refl))

family-has-order : has_order family ≡ true
unfolding with_node has_order is_stronger compare_sibling_node_strength sibling_lines plain_lines nodes_by arc_rank smaller
family-has-order = refl

-- the Inherit comes first, in the child list and in the order
family-children : OnlyOrder (is_stronger family) (1 ∷ 2 ∷ []) (2 ∷ 1 ∷ [])
unfolding with_node ordering is_stronger compare_sibling_node_strength sibling_lines plain_lines nodes_by arc_rank smaller
family-children = ordering-children family (stronger-antisymmetric family) family-has-order 0 (omega arith)

family-ordered : Ordered 3 (compare_node_strength (view_of family)) (0 ∷ 2 ∷ 1 ∷ [])
unfolding with_node ordering is_stronger compare_sibling_node_strength sibling_lines plain_lines nodes_by arc_rank smaller
family-ordered = ordering-ordered family family-tree family-has-order

-- document 01's ring is refused, and rightly: its list has no order
ring-refused : has_order (from ring) ≡ false
unfolding init_root add_child with_node well_formed prim_count is_name_start is_local_root has_order is_stronger compare_sibling_node_strength sibling_lines
    plain_lines specializes_lines depth_line origin_lines same_origin_lines origins_are_nested is_nested_under outward origin_root_node
    is_propagated_specializes same_site same_path nodes_by arc_rank smaller
ring-refused = refl

ring-no-order : (v : ℕ) × (v < size (from ring)) × NoOrder (is_stronger (from ring)) (children_of (from ring) v)
ring-no-order = (has-order-fails (from ring) (stronger-antisymmetric (from ring))).0 ring-refused
