-- How an arena (document 01: the room) holds a graph: the layout of docs/LAYOUT.md, the graph that
-- bytes hold, the bytes of a graph, and question 2, "Does the room hold a graph", point by point.
-- Bytes that a graph does not use keep what they had.
use Rattle.std.specs.Prelude.{Bool, true, not, ◌||◌, ◌&&◌, cond, List, [], ◌∷◌, ◌++◌, ℕ, zero, suc, ◌+◌, ◌*◌, eqb, ltb, leb, length, take, drop}
use Rattle.model.specs.Bytes.{stored}
use Rattle.model.specs.Lists.{bit, count, all_below}
use Rattle.model.specs.Path.{prim_count}
use Rattle.model.specs.Node.{invalid, Node}
use Rattle.model.specs.Graph.{Graph, empty_graph, size, node_at, children_of, with_node, is_shallow, is_local_root}
use Rattle.model.specs.Snapshot.{big_endian, field, read_record, record_bytes}
use Rattle.model.specs.Refusals.{refusal, record_questions}

-- ---- The layout: a header of 64 bytes, then 1,024 slots of 320

abbrev pub arena_bytes : ℕ
arena_bytes = 327744

abbrev pub slot_at : ℕ → ℕ
slot_at n = 64 + n * 320

-- the header: the count; ordered, finalized and shallow, a byte each; the local root, 0 for none
abbrev pub count_in : List ℕ → ℕ
count_in bs = field 0 4 bs

abbrev pub ordered_in : List ℕ → ℕ
ordered_in bs = field 4 1 bs

abbrev pub finalized_in : List ℕ → ℕ
finalized_in bs = field 5 1 bs

abbrev pub shallow_in : List ℕ → ℕ
shallow_in bs = field 6 1 bs

abbrev pub local_root_in : List ℕ → ℕ
local_root_in bs = field 8 4 bs

-- a slot: first child, last child and next sibling, `invalid` for none; entry n of the order, in
-- slot n; the prim count of the node's path; its record as a snapshot has it, length first
abbrev pub first_child_in : List ℕ → ℕ → ℕ
first_child_in bs n = field (slot_at n) 4 bs

abbrev pub last_child_in : List ℕ → ℕ → ℕ
last_child_in bs n = field (slot_at n + 4) 4 bs

abbrev pub next_sibling_in : List ℕ → ℕ → ℕ
next_sibling_in bs n = field (slot_at n + 8) 4 bs

abbrev pub order_entry_in : List ℕ → ℕ → ℕ
order_entry_in bs n = field (slot_at n + 12) 4 bs

abbrev pub prim_count_in : List ℕ → ℕ → ℕ
prim_count_in bs n = field (slot_at n + 16) 1 bs

abbrev pub record_length_in : List ℕ → ℕ → ℕ
record_length_in bs n = field (slot_at n + 17) 2 bs

abbrev pub node_in : List ℕ → ℕ → Node
node_in bs n = read_record (take (record_length_in bs n) (drop (slot_at n + 19) bs))

-- ---- The graph that bytes hold

-- f at each of n numbers from `at` on
abbrev pub tabulate {ℓ} : {A : Type ℓ} → (ℕ → A) → ℕ → ℕ → List A
tabulate f at zero = []
tabulate f at (suc n) = f at ∷ tabulate f (suc at) n

abbrev pub nodes_in : List ℕ → List Node
nodes_in bs = tabulate (node_in bs) 0 (count_in bs)

-- the nodes from n on by next siblings, at most k of them
abbrev pub chain_in : List ℕ → ℕ → ℕ → List ℕ
chain_in bs zero n = []
chain_in bs (suc k) n = cond (ltb n (count_in bs)) (n ∷ chain_in bs k (next_sibling_in bs n)) []

abbrev pub children_in : List ℕ → ℕ → List ℕ
children_in bs v = chain_in bs (count_in bs) (first_child_in bs v)

abbrev pub order_in : List ℕ → List ℕ
order_in bs = cond (eqb (ordered_in bs) 1) (tabulate (order_entry_in bs) 0 (count_in bs)) []

unfoldable pub decode : List ℕ → Graph
decode bs = record {
  nodes = nodes_in bs;
  children = tabulate (children_in bs) 0 (count_in bs);
  order = order_in bs;
  ordered = eqb (ordered_in bs) 1;
  finalized = eqb (finalized_in bs) 1;
  shallow = eqb (shallow_in bs) 1;
}

-- ---- The bytes of a graph

-- the local root's number
abbrev pub local_root_below : List Node → ℕ → ℕ
local_root_below ns zero = 0
local_root_below ns (suc n) = cond (is_local_root ns n) n (local_root_below ns n)

abbrev pub local_root_of : List Node → ℕ
local_root_of ns = local_root_below ns (length ns)

-- the first of a child list, the last, and the one after n; `invalid` for none
abbrev pub first_of : List ℕ → ℕ
first_of [] = invalid
first_of (c ∷ cs) = c

abbrev pub last_of : List ℕ → ℕ
last_of [] = invalid
last_of (c ∷ []) = c
last_of (c ∷ d ∷ cs) = last_of (d ∷ cs)

abbrev pub after_in : ℕ → List ℕ → ℕ
after_in n [] = invalid
after_in n (c ∷ cs) = cond (eqb c n) (first_of cs) (after_in n cs)

abbrev pub link_bytes : Graph → ℕ → List ℕ
link_bytes g n =
    big_endian 4 (first_of (children_of g n)) ++ (big_endian 4 (last_of (children_of g n))
    ++ big_endian 4 (after_in n (children_of g (node_at g.nodes n).parent)))

abbrev pub site_bytes : Graph → ℕ → List ℕ
site_bytes g n = prim_count (node_at g.nodes n).path ∷ record_bytes (node_at g.nodes n)

abbrev pub slot_stored : Graph → ℕ → List ℕ → List ℕ
slot_stored g n bs = stored (slot_at n + 16) (site_bytes g n) (stored (slot_at n) (link_bytes g n) bs)

abbrev pub slots_stored : Graph → ℕ → List ℕ → List ℕ
slots_stored g zero bs = bs
slots_stored g (suc n) bs = slot_stored g n (slots_stored g n bs)

abbrev pub order_stored : List ℕ → ℕ → List ℕ → List ℕ
order_stored [] at bs = bs
order_stored (n ∷ ns) at bs = order_stored ns (suc at) (stored (slot_at at + 12) (big_endian 4 n) bs)

abbrev pub header_bytes : Graph → List ℕ
header_bytes g = big_endian 4 (size g) ++ (bit g.ordered ∷ bit g.finalized ∷ bit g.shallow ∷ [])

-- of an empty graph only the count and the marks are used
abbrev pub root_stored : Graph → List ℕ → List ℕ
root_stored g bs = cond (eqb (size g) 0) bs (stored 8 (big_endian 4 (local_root_of g.nodes)) bs)

-- bs with the bytes of g put in
unfoldable pub encode : Graph → List ℕ → List ℕ
encode g bs = order_stored g.order 0 (slots_stored g (size g) (root_stored g (stored 0 (header_bytes g) bs)))

-- ---- Question 2

-- "records such as the snapshot reader accepts, parents and origins lower": each put to the graph
-- of those before it
abbrev pub records_accepted : Graph → List Node → Bool
records_accepted g [] = true
records_accepted g (x ∷ xs) = eqb (refusal (record_questions g x)) 0 && records_accepted (with_node g x) xs

abbrev pub record_fits : List ℕ → ℕ → Bool
record_fits bs n = leb 28 (record_length_in bs n) && leb (record_length_in bs n) 282

-- the links from n on end in `invalid`, within k nodes, all of them children of v
abbrev pub chain_ends : List ℕ → ℕ → ℕ → ℕ → Bool
chain_ends bs v zero n = eqb n invalid
chain_ends bs v (suc k) n =
    eqb n invalid || (ltb n (count_in bs) && (eqb (node_in bs n).parent v && chain_ends bs v k (next_sibling_in bs n)))

-- "each node but 0 once in its parent's chain"; node 0 has no next sibling
abbrev pub chain_valid : List ℕ → ℕ → Bool
chain_valid bs v = chain_ends bs v (count_in bs) (first_child_in bs v) && eqb (last_child_in bs v) (last_of (children_in bs v))

abbrev pub in_chain_once : List ℕ → ℕ → Bool
in_chain_once bs n = cond (eqb n 0) (eqb (next_sibling_in bs 0) invalid) (eqb (count n (children_in bs (node_in bs n).parent)) 1)

-- "a marked order each node once"
abbrev pub in_order_once : List ℕ → ℕ → Bool
in_order_once bs n = eqb (count n (order_in bs)) 1

-- "shallow set where a parent is"
abbrev pub shallow_marked : List ℕ → ℕ → Bool
shallow_marked bs n = not (is_shallow (nodes_in bs) n (node_in bs n)) || eqb (shallow_in bs) 1

-- the marks are bytes 0 and 1; "finalized only if ordered and not shallow", and nothing else, with
-- or without a node
abbrev pub state_valid : List ℕ → Bool
state_valid bs =
    leb (ordered_in bs) 1
    && (leb (finalized_in bs) 1
    && (leb (shallow_in bs) 1 && (eqb (finalized_in bs) 0 || (eqb (ordered_in bs) 1 && eqb (shallow_in bs) 0))))

abbrev pub node_valid : List ℕ → ℕ → Bool
node_valid bs n =
    record_fits bs n
    && (eqb (prim_count_in bs n) (prim_count (node_in bs n).path)
    && (chain_valid bs n && (in_chain_once bs n && (shallow_marked bs n && (eqb (ordered_in bs) 0 || in_order_once bs n)))))

-- "A room whose bytes are all zero is the empty graph"
unfoldable pub holds_graph : List ℕ → Bool
holds_graph bs =
    leb (count_in bs) 1024
    && (state_valid bs
    && (all_below (node_valid bs) (count_in bs)
    && (records_accepted empty_graph (nodes_in bs) && (eqb (count_in bs) 0 || eqb (local_root_in bs) (local_root_of (nodes_in bs))))))
