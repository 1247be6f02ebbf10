-- What calls leave where document 01's table has no example, by computation: erasing, and calls
-- that are refused. Assumes nothing.
use mathlib.Core.Path.{◌≡◌, refl}
use mathlib.Core.List.{List, [], ◌∷◌, ◌++◌}
use Prim.Native.Nat.{ℕ}
use lib.ListN.{replicate}
use Rattle.model.proofs.ExampleGraphs.{plain, from, line, four, ring}
use Rattle.model.specs.Path.{is_name_start, is_word_byte, same_path, well_formed, prim_count, ends_in_name, name_start, last_name, separator, append_name}
use Rattle.model.specs.Node.{same_site}
use Rattle.model.specs.Graph.{with_node, is_local_root}
use Rattle.model.specs.Strength.{arc_rank, smaller, is_propagated_specializes, origin_root_node, outward, is_nested_under, origins_are_nested, same_origin_lines, origin_lines, depth_line, specializes_lines, plain_lines, sibling_lines, nodes_by, compare_sibling_node_strength}
use Rattle.model.specs.Order.{is_stronger, has_order, ordering}
use Rattle.model.specs.Erasing.{erase_by, erase}
use Rattle.model.specs.Deepening.{deepen}
use Rattle.model.specs.Calls.{orders, deepening, call, unchanged, init_root, add_child, finalize_strength_order, append_child_name}
use Rattle.model.specs.ArenaCalls.{arena_after}

-- node 2 goes of the four, ordered: what is left is the graph that was made without it
one-erased : erase (0 ∷ 0 ∷ 1 ∷ 0 ∷ []) (from (four ++ orders ∷ [])) ≡ from (line (plain 1 1 "/C" ∷ []) ++ orders ∷ [])
unfolding init_root add_child finalize_strength_order with_node well_formed prim_count is_name_start is_word_byte is_local_root has_order ordering is_stronger
    compare_sibling_node_strength sibling_lines plain_lines nodes_by arc_rank smaller erase_by
one-erased = refl

-- a name of 254 bytes, which no path of the four has room for: no path is written
too-long-refused : call (deepening (47 ∷ replicate 254 97)) (from four) ≡ unchanged 7 (from four)
unfolding init_root add_child append_child_name with_node well_formed prim_count is_name_start is_word_byte is_local_root ends_in_name name_start last_name separator
    append_name deepen
too-long-refused = refl

-- a refused call changes no byte, whatever the bytes are
ring-writes-nothing : (bs : List ℕ) → arena_after (call orders (from ring)) bs ≡ bs
unfolding init_root add_child finalize_strength_order with_node well_formed prim_count is_name_start is_local_root has_order is_stronger
    compare_sibling_node_strength sibling_lines plain_lines specializes_lines depth_line origin_lines same_origin_lines origins_are_nested is_nested_under
    outward origin_root_node is_propagated_specializes same_site same_path nodes_by arc_rank smaller
ring-writes-nothing bs = refl
