-- Document 01, "Strength": the comparison of two nodes and of two siblings. It reads a graph
-- through a `View`, which has tests on paths and prim counts and not these: so one law tells when
-- two graphs compare alike (laws/proofs/StrengthCongruence.antt). Walks and comparisons are by
-- fuel; laws/proofs/StrengthLaws.antt has the same lines without.
use Rattle.std.specs.Prelude.{Bool, true, false, not, ◌||◌, ◌&&◌, cond, List, [], ◌∷◌, ◌++◌, ℕ, zero, suc, ◌+◌, eqb, ltb}
use Rattle.std.specs.Ordering.{ordering_then}
use Rattle.std.specs.declared.cmp.Ordering.{Ordering}
use Rattle.std.specs.declared.cmp.Ordering.TheVariants.{Less, Equal, Greater}
use Rattle.model.specs.Node.{root_arc, inherit_arc, variant_arc, relocate_arc, reference_arc, payload_arc, specialize_arc, Node, has_specializes, same_site as same_site_of}
use Rattle.model.specs.Graph.{Graph, node_at, depth_below_introduction, is_local_root, in_local_stack}

-- ---- What the comparison reads

pub record View : Type 0 where
  pub parent : ℕ → ℕ
  pub origin : ℕ → ℕ
  -- the rank of its arc, the smaller the stronger
  pub rank : ℕ → ℕ
  pub arc : ℕ → ℕ
  pub special : ℕ → Bool
  pub depth : ℕ → ℕ
  pub sibling : ℕ → ℕ
  pub same_site : ℕ → ℕ → Bool
  -- two nodes other than 0 with one depth below introduction
  pub same_depth_below : ℕ → ℕ → Bool
  pub local_root : ℕ → Bool
  pub local_stack : ℕ → Bool

-- Document 02, W5: what ranks two arcs "goes through local, inherits, variants, relocates,
-- references, payloads and specializes in the page's sequence, a case each". The page is OpenUSD's
-- LIVERPS, the strongest first. What is no arc comes after them, by its number.
unfoldable pub arc_rank : ℕ → ℕ
arc_rank arc =
    cond (eqb arc root_arc) 0  -- Local
    (cond (eqb arc inherit_arc) 1  -- Inherits
    (cond (eqb arc variant_arc) 2  -- Variants
    (cond (eqb arc relocate_arc) 3  -- rElocates
    (cond (eqb arc reference_arc) 4  -- References
    (cond (eqb arc payload_arc) 5  -- Payloads
    (cond (eqb arc specialize_arc) 6 arc))))))  -- Specializes

abbrev pub view : List Node → View
view ns = record {
  parent = λ n. (node_at ns n).parent;
  origin = λ n. (node_at ns n).origin;
  rank = λ n. arc_rank (node_at ns n).arc;
  arc = λ n. (node_at ns n).arc;
  special = λ n. has_specializes (node_at ns n);
  depth = λ n. (node_at ns n).depth;
  sibling = λ n. (node_at ns n).sibling;
  same_site = λ a b. same_site_of (node_at ns a) (node_at ns b);
  same_depth_below = λ a b. ltb 0 a && (ltb 0 b && eqb (depth_below_introduction ns a) (depth_below_introduction ns b));
  local_root = is_local_root ns;
  local_stack = in_local_stack ns;
}

-- what every statement about a graph's comparison goes through
abbrev pub view_of : Graph → View
view_of g = view g.nodes

-- ---- Orderings

-- the first that differs
abbrev pub first : Ordering → Ordering → Ordering
first = ordering_then

unfoldable pub smaller : ℕ → ℕ → Ordering
smaller x y = cond (ltb x y) Less (cond (eqb x y) Equal Greater)

abbrev pub larger : ℕ → ℕ → Ordering
larger x y = smaller y x

-- the one that it holds of is the stronger
abbrev pub having : Bool → Bool → Ordering
having true true = Equal
having true false = Less
having false true = Greater
having false false = Equal

-- ---- Walks: every step goes to a lower node, so as many as the node's number are enough

-- from n by `next` until `stop`, or node 0
abbrev pub follow_up_to : (ℕ → Bool) → (ℕ → ℕ) → ℕ → ℕ → ℕ
follow_up_to stop next zero n = n
follow_up_to stop next (suc k) n = cond (eqb n 0 || stop n) n (follow_up_to stop next k (next n))

abbrev pub follow : (ℕ → Bool) → (ℕ → ℕ) → ℕ → ℕ
follow stop next n = follow_up_to stop next n n

-- how many steps that takes
abbrev pub steps_up_to : (ℕ → Bool) → (ℕ → ℕ) → ℕ → ℕ → ℕ
steps_up_to stop next zero n = 0
steps_up_to stop next (suc k) n = cond (eqb n 0 || stop n) 0 (suc (steps_up_to stop next k (next n)))

abbrev pub steps : (ℕ → Bool) → (ℕ → ℕ) → ℕ → ℕ
steps stop next n = steps_up_to stop next n n

-- ---- The notions that the lines name

-- "Authored: origin is the parent"
abbrev pub is_authored : View → ℕ → Bool
is_authored u n = eqb (u.origin n) (u.parent n)

-- "Implied: site differs from its origin's"
abbrev pub is_implied : View → ℕ → Bool
is_implied u n = not (u.same_site n (u.origin n))

-- "A propagated specializes has arc Specialize, the local root as parent, and its origin's site"
unfoldable pub is_propagated_specializes : View → ℕ → Bool
is_propagated_specializes u n =
    ltb 0 n && (eqb (u.arc n) specialize_arc && (u.local_root (u.parent n) && u.same_site n (u.origin n)))

-- "R(n) follows origins until one equals the parent or is missing; the steps are its hops"
unfoldable pub origin_root_node : View → ℕ → ℕ
origin_root_node u n = follow (is_authored u) u.origin n

unfoldable pub origin_hops : View → ℕ → ℕ
origin_hops u n = steps (is_authored u) u.origin n

-- "going to the origin from a propagated specializes and else to the parent"
unfoldable pub outward : View → ℕ → ℕ
outward u n = cond (is_propagated_specializes u n) (u.origin n) (u.parent n)

-- y is met from x, "itself counted"
unfoldable pub is_nested_under : View → ℕ → ℕ → Bool
is_nested_under u x y = eqb (follow (λ n. eqb n y) (outward u) x) y

-- "Nested: one is met from the other"
unfoldable pub origins_are_nested : View → ℕ → ℕ → Bool
origins_are_nested u a b = is_nested_under u a b || is_nested_under u b a

-- "replace a propagated node by its origin"
unfoldable pub replaced : View → ℕ → ℕ
replaced u n = cond (is_propagated_specializes u n) (u.origin n) n

abbrev pub is_class_based_arc : ℕ → Bool
is_class_based_arc arc = eqb arc inherit_arc || eqb arc specialize_arc

-- "go up while the arc is Inherit or Specialize and the depth below introduction is still the
-- first; after each step replace"
abbrev pub class_hierarchy_from : View → ℕ → ℕ
class_hierarchy_from u m = follow (λ n. not (is_class_based_arc (u.arc n) && u.same_depth_below m n)) (λ n. replaced u (u.parent n)) m

-- "from n, or its origin if n is propagated"
unfoldable pub starting_node_of_class_hierarchy : View → ℕ → ℕ
starting_node_of_class_hierarchy u n = class_hierarchy_from u (replaced u n)

-- "Then skip Relocates upward"
unfoldable pub skip_relocates : View → ℕ → ℕ
skip_relocates u n = follow (λ m. not (eqb (u.arc m) relocate_arc)) u.parent n

-- "D is the namespace depth, as stored, of the node found"
unfoldable pub namespace_depth_for_class_hierarchy : View → ℕ → ℕ
namespace_depth_for_class_hierarchy u n = u.depth (skip_relocates u (starting_node_of_class_hierarchy u n))

-- "class depth (0 if authored, else D of the origin)"
unfoldable pub class_depth : View → ℕ → ℕ
class_depth u n = cond (is_authored u n) 0 (namespace_depth_for_class_hierarchy u (u.origin n))

-- ---- The specializes list; `nodes` is the strength of two nodes

abbrev pub implied_over : View → ℕ → ℕ → Ordering
implied_over u a b = having (is_implied u a) (is_implied u b)

-- "2. Same origin: authored, sibling number, then node number; else implied over not implied, then
-- node number." One origin and one parent: both are authored, or neither is.
unfoldable pub same_origin_lines : View → ℕ → ℕ → Ordering
same_origin_lines u a b =
    cond (is_authored u a || is_authored u b) (first (smaller (u.sibling a) (u.sibling b)) (smaller a b)) (first (implied_over u a b) (smaller a b))

-- "if neither is authored and both have the local root's stack, implied over not"
unfoldable pub local_line : View → ℕ → ℕ → Ordering
local_line u a b =
    cond (not (is_authored u a || is_authored u b) && (u.local_stack a && u.local_stack b)) (implied_over u a b) Equal

-- "4. Smaller class depth; more hops; [local line]; node strength of the origins."
unfoldable pub same_root_lines : View → (ℕ → ℕ → Ordering) → ℕ → ℕ → Ordering
same_root_lines u nodes a b =
    first (smaller (class_depth u a) (class_depth u b))
    (first (larger (origin_hops u a) (origin_hops u b))
    (first (local_line u a b)
    (first (nodes (u.origin a) (u.origin b)) (smaller a b))))

-- "3. R differ: node strength of them."
unfoldable pub origin_lines : View → (ℕ → ℕ → Ordering) → ℕ → ℕ → Ordering
origin_lines u nodes a b =
    cond (eqb (u.origin a) (u.origin b)) (same_origin_lines u a b)
    (cond (eqb (origin_root_node u a) (origin_root_node u b)) (same_root_lines u nodes a b)
    (first (nodes (origin_root_node u a) (origin_root_node u b)) (smaller a b)))

-- "1. Unless R(a), R(b) are nested: larger depth."
unfoldable pub depth_line : View → ℕ → ℕ → Ordering
depth_line u a b = cond (origins_are_nested u (origin_root_node u a) (origin_root_node u b)) Equal (larger (u.depth a) (u.depth b))

unfoldable pub specializes_lines : View → (ℕ → ℕ → Ordering) → ℕ → ℕ → Ordering
specializes_lines u nodes a b = first (depth_line u a b) (origin_lines u nodes a b)

-- ---- Siblings, "first line that differs"

-- "3. Larger depth. 4. Node strength of the origins. 5. Smaller sibling number, then smaller node
-- number."
unfoldable pub plain_lines : View → (ℕ → ℕ → Ordering) → ℕ → ℕ → Ordering
plain_lines u nodes a b =
    first (larger (u.depth a) (u.depth b))
    (first (nodes (u.origin a) (u.origin b))
    (first (smaller (u.sibling a) (u.sibling b)) (smaller a b)))

-- "1. Smaller arc. 2. Both HAS_SPECIALIZES: go to the list below."
unfoldable pub sibling_lines : View → (ℕ → ℕ → Ordering) → ℕ → ℕ → Ordering
sibling_lines u nodes a b =
    first (smaller (u.rank a) (u.rank b))
    (cond (u.special a && u.special b) (specializes_lines u nodes a b) (plain_lines u nodes a b))

-- ---- Nodes: "the same node is Equal; an ancestor is stronger (Less); else compare the siblings where the chains part"

-- the chain from node 0 down to n
abbrev pub chain_up_to : (ℕ → ℕ) → ℕ → ℕ → List ℕ
chain_up_to parent zero n = n ∷ []
chain_up_to parent (suc k) n = cond (eqb n 0) (n ∷ []) (chain_up_to parent k (parent n) ++ (n ∷ []))

abbrev pub chain : (ℕ → ℕ) → ℕ → List ℕ
chain parent n = chain_up_to parent n n

-- what is said of two chains: that they are one, that one ends first and so is an ancestor's, or
-- what is said of the siblings where they part
abbrev pub parting_by : {A : Type 0} → A → A → A → (ℕ → ℕ → A) → List ℕ → List ℕ → A
parting_by same above below siblings [] [] = same
parting_by same above below siblings [] (y ∷ ys) = above
parting_by same above below siblings (x ∷ xs) [] = below
parting_by same above below siblings (x ∷ xs) (y ∷ ys) = cond (eqb x y) (parting_by same above below siblings xs ys) (siblings x y)

abbrev pub parting : (ℕ → ℕ → Ordering) → List ℕ → List ℕ → Ordering
parting siblings xs ys = parting_by Equal Less Greater siblings xs ys

unfoldable pub nodes_by : (ℕ → ℕ) → (ℕ → ℕ → Ordering) → ℕ → ℕ → Ordering
nodes_by parent siblings a b = parting siblings (chain parent a) (chain parent b)

-- "Node strength and sibling strength call on each other through origins": at most k times. Node 0
-- has no sibling.
abbrev pub siblings_up_to : View → ℕ → ℕ → ℕ → Ordering
siblings_up_to u zero a b = smaller a b
siblings_up_to u (suc k) a b =
    cond (ltb 0 a && ltb 0 b) (sibling_lines u (nodes_by u.parent (λ x y. siblings_up_to u k x y)) a b) (smaller a b)

-- both origins are lower, so the sum of the two numbers falls
unfoldable pub compare_sibling_node_strength : View → ℕ → ℕ → Ordering
compare_sibling_node_strength u a b = siblings_up_to u (suc (a + b)) a b

unfoldable pub compare_node_strength : View → ℕ → ℕ → Ordering
compare_node_strength u a b = nodes_by u.parent (compare_sibling_node_strength u) a b
