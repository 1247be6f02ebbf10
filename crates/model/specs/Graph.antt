-- Document 01, "Node and site": the graph that the nodes make, a node more, and what is asked of
-- one node.
use Rattle.std.specs.Prelude.{Bool, false, not, ◌||◌, ◌&&◌, cond, List, [], ◌∷◌, ◌++◌, ℕ, suc, ◌-◌, eqb, ltb, length, get_or, set}
use Rattle.model.specs.Lists.{any_below}
use Rattle.model.specs.Path.{prim_count, same_path, path_at_intro_depth, absolute_root}
use Rattle.model.specs.Node.{invalid, root_arc, Node, no_node, is_inert, is_culled}

-- The nodes, "numbered from 0 in order of adding"; each node's children, in chain order; the order,
-- empty unless the graph is ordered; and the marks ordered, finalized and shallow.
pub record Graph : Type 0 where
  pub nodes : List Node
  pub children : List (List ℕ)
  pub order : List ℕ
  pub ordered : Bool
  pub finalized : Bool
  pub shallow : Bool

abbrev pub empty_graph : Graph
empty_graph = record { nodes = []; children = []; order = []; ordered = false; finalized = false; shallow = false }

abbrev pub size : Graph → ℕ
size g = length g.nodes

abbrev pub node_at : List Node → ℕ → Node
node_at ns n = get_or ns n no_node

abbrev pub children_of : Graph → ℕ → List ℕ
children_of g n = get_or g.children n []

-- ---- A node more

-- "A parent whose prim count is below the child's depth sets the sticky shallow mark": the mark
-- that a node x, added as number n, brings
abbrev pub is_shallow : List Node → ℕ → Node → Bool
is_shallow ns n x = ltb 0 n && ltb (prim_count (node_at ns x.parent).path) x.depth

-- "The new child goes last in the chain." Adding clears ordered and finalized. (Node 0 has no
-- parent, and stands in no chain.)
unfoldable pub with_node : Graph → Node → Graph
with_node g x = record {
  nodes = g.nodes ++ (x ∷ []);
  children = set g.children x.parent (children_of g x.parent ++ (size g ∷ [])) ++ ([] ∷ []);
  order = [];
  ordered = false;
  finalized = false;
  shallow = g.shallow || is_shallow g.nodes (size g) x;
}

-- ---- What is asked of one node

-- "Depth below introduction: the parent's prim count less the node's depth, at least 0; node 0 has
-- 0"
unfoldable pub depth_below_introduction : List Node → ℕ → ℕ
depth_below_introduction ns n = cond (eqb n 0) 0 (prim_count (node_at ns (node_at ns n).parent).path - (node_at ns n).depth)

-- the node's path, taken back by that depth
unfoldable pub path_at_introduction : List Node → ℕ → List ℕ
path_at_introduction ns n = path_at_intro_depth (depth_below_introduction ns n) (node_at ns n).path

-- the Rust's `is_due_to_ancestor`: that depth is not 0
abbrev pub is_due_to_ancestor : List Node → ℕ → Bool
is_due_to_ancestor ns n = ltb 0 (depth_below_introduction ns n)

-- the Rust's `intro_path`: the parent's path, taken back by that depth, "or the absolute root for a
-- node with no parent"
unfoldable pub intro_path : List Node → ℕ → List ℕ
intro_path ns n =
    cond (eqb n 0) absolute_root (path_at_intro_depth (depth_below_introduction ns n) (node_at ns (node_at ns n).parent).path)

-- "Arc Root is for node 0 and for one child of it, the local root"
unfoldable pub is_local_root : List Node → ℕ → Bool
is_local_root ns n = ltb 0 n && eqb (node_at ns n).arc root_arc

abbrev pub has_local_root : List Node → Bool
has_local_root ns = any_below (is_local_root ns) (length ns)

-- has the local root's stack
unfoldable pub in_local_stack : List Node → ℕ → Bool
in_local_stack ns n = any_below (λ i. is_local_root ns i && eqb (node_at ns i).stack (node_at ns n).stack) (length ns)

-- "`node_using_site`: the lowest node neither INERT nor CULLED with that stack and path, else no
-- node"
abbrev pub uses_site : ℕ → List ℕ → Node → Bool
uses_site stack path x = not (is_inert x || is_culled x) && (eqb x.stack stack && same_path x.path path)

abbrev pub site_from : ℕ → ℕ → List ℕ → List Node → ℕ
site_from n stack path [] = invalid
site_from n stack path (x ∷ xs) = cond (uses_site stack path x) n (site_from (suc n) stack path xs)

unfoldable pub node_using_site : ℕ → List ℕ → Graph → ℕ
node_using_site stack path g = site_from 0 stack path g.nodes
