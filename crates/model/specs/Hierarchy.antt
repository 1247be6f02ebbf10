-- What the Rust asks of a graph besides the comparison, and document 01 has no sentence for:
-- ancestors, the topmost class of a class hierarchy, and the copy of a specializes node under the
-- local root. The definitions are the Rust's functions of the same names.
use Rattle.std.specs.Prelude.{Bool, not, ◌||◌, ◌&&◌, cond, List, [], ◌∷◌, ℕ, zero, suc, eqb, ltb}
use Rattle.model.specs.Node.{invalid, specialize_arc}
use Rattle.model.specs.Graph.{Graph, children_of}
use Rattle.model.specs.Strength.{View, view, follow, is_class_based_arc, is_propagated_specializes, replaced}
use Rattle.model.specs.Arena.{local_root_of}

-- "walking `y` up its parent chain and stopping before the local root": y itself counts, the local
-- root and node 0 do not
unfoldable pub is_ancestor_of : View → ℕ → ℕ → Bool
is_ancestor_of u x y = ltb 0 x && (not (u.local_root x) && eqb (follow (λ c. u.local_root c || eqb c x) u.parent y) x)

-- the last node that a walk leaves; no node where it takes no step
abbrev pub later_or : ℕ → ℕ → ℕ
later_or n later = cond (eqb later invalid) n later

abbrev pub left_up_to : (ℕ → Bool) → (ℕ → ℕ) → ℕ → ℕ → ℕ
left_up_to stop next zero n = invalid
left_up_to stop next (suc k) n = cond (eqb n 0 || stop n) invalid (later_or n (left_up_to stop next k (next n)))

-- "topmost class node": the last of the class arcs on the walk of `starting_node_of_class_hierarchy`
abbrev pub class_node_from : View → ℕ → ℕ
class_node_from u m =
    left_up_to (λ n. not (is_class_based_arc (u.arc n) && u.same_depth_below m n)) (λ n. replaced u (u.parent n)) m m

unfoldable pub topmost_class_node : View → ℕ → ℕ
topmost_class_node u n = class_node_from u (replaced u n)

-- the first that passes; no node where none does
abbrev pub first_in : (ℕ → Bool) → List ℕ → ℕ
first_in p [] = invalid
first_in p (x ∷ xs) = cond (p x) x (first_in p xs)

-- c is a propagated specializes whose origin is n
abbrev pub is_copy : View → ℕ → ℕ → Bool
is_copy u n c = eqb (u.origin c) n && is_propagated_specializes u c

-- "a local-root child whose origin is `node` and which is itself a propagated specializes node",
-- the first in its child list; of a node with another arc, or with no local root, none
unfoldable pub get_propagated_specializes_node : Graph → ℕ → ℕ
get_propagated_specializes_node g n =
    let u = view g.nodes in
    let root = local_root_of g.nodes in
    cond (eqb (u.arc n) specialize_arc && not (eqb root 0)) (first_in (is_copy u n) (children_of g root)) invalid
