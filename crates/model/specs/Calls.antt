-- Each call of document 01 as one function, from its arguments and the graph to its refusal, its
-- value and the graph. Refused, the value is 0 (or nothing) and the graph is as it was. Questions 1
-- and 2 are about lent bytes, and come before these.
use Rattle.std.specs.Prelude.{None, Option, Some}
use Rattle.std.specs.Prelude.{Bool, true, ◌||◌, ◌&&◌, cond, List, [], ◌∷◌, ℕ, zero, suc, eqb, ltb, leb, length}
use Rattle.model.specs.Path.{well_formed, prim_count, ends_in_name}
use Rattle.model.specs.Node.{invalid, root_arc, inert_flag, Node}
use Rattle.model.specs.Graph.{Graph, empty_graph, size, node_at, with_node}
use Rattle.model.specs.Order.{has_order, ordering}
use Rattle.model.specs.Culling.{cull_subtrees_without_opinions}
use Rattle.model.specs.Setting.{marked, may_mark, with_first_spec, restricted_at, with_record}
use Rattle.model.specs.Erasing.{stays, can_erase, new_number, erase}
use Rattle.model.specs.Deepening.{append_child_name_to_all_sites}
use Rattle.model.specs.Snapshot.{read_snapshot}
use Rattle.model.specs.Refusals.{Question, ask, refusal, most_path_bytes, path_bytes, has_room, added_kind, record_questions}

-- ---- What a call that writes a graph comes to

pub record Outcome : Type 0 where
  pub refused : ℕ
  pub value : ℕ
  pub graph : Graph

abbrev pub unchanged : ℕ → Graph → Outcome
unchanged number g = record { refused = number; value = 0; graph = g }

-- the refusal where there is one, else the value and the new graph
abbrev pub settled : ℕ → Graph → ℕ → Graph → Outcome
settled zero g value result = record { refused = 0; value = value; graph = result }
settled (suc number) g value result = unchanged (suc number) g

abbrev pub decided : List Question → Graph → ℕ → Graph → Outcome
decided questions g value result = settled (refusal questions) g value result

-- question 3: "Is there a node 0"
abbrev pub has_node_zero : Graph → Question
has_node_zero g = ask 3 (ltb 0 (size g))

-- ---- Starting and adding

-- "Node 0: arc Root, INERT, has specs, 16-bit fields 0 except depth = its own prim count; no
-- parent, no origin"
abbrev pub root_node : ℕ → ℕ → List ℕ → Node
root_node stack layer path = record {
  arc = root_arc;
  flags = inert_flag;
  stack = stack;
  layer = layer;
  parent = invalid;
  origin = invalid;
  depth = prim_count path;
  sibling = 0;
  restriction = 0;
  spec_from = 0;
  has_specs = 1;
  path = path;
}

unfoldable pub init_root : ℕ → ℕ → List ℕ → Graph → Outcome
init_root stack layer path g =
    decided (ask 3 (eqb (size g) 0) ∷ ask 5 (well_formed path) ∷ []) g 0 (with_node g (root_node stack layer path))

-- A node to be added: its fields, and parent, origin and depth, which may be missing (those of
-- `fields` are not read).
pub record NodeDesc : Type 0 where
  pub fields : Node
  pub parent : Option ℕ
  pub origin : Option ℕ
  pub depth : Option ℕ

-- what is given, or what stands for it
abbrev pub given_or : Option ℕ → ℕ → ℕ
given_or None missing = missing
given_or (Some n) missing = n

-- "`add_child` with no parent is a root site: its parent is node 0"
abbrev pub struct_parent : NodeDesc → ℕ
struct_parent d = given_or d.parent 0

-- "A missing depth becomes the parent's prim count, or its own for a root site"
abbrev pub prims_over : List Node → Option ℕ → List ℕ → ℕ
prims_over ns None path = prim_count path
prims_over ns (Some parent) path = prim_count (node_at ns parent).path

abbrev pub default_depth : Graph → NodeDesc → ℕ
default_depth g d = prims_over g.nodes d.parent d.fields.path

-- "A missing origin becomes the parent"
abbrev pub added_node : Graph → NodeDesc → Node
added_node g d = record {
  arc = d.fields.arc;
  flags = d.fields.flags;
  stack = d.fields.stack;
  layer = d.fields.layer;
  parent = struct_parent d;
  origin = given_or d.origin (struct_parent d);
  depth = given_or d.depth (default_depth g d);
  sibling = d.fields.sibling;
  restriction = d.fields.restriction;
  spec_from = d.fields.spec_from;
  has_specs = d.fields.has_specs;
  path = d.fields.path;
}

-- question 4: "Is each given node below the count?"
abbrev pub given_below : ℕ → Option ℕ → Bool
given_below count None = true
given_below count (Some n) = ltb n count

unfoldable pub add_child : NodeDesc → Graph → Outcome
add_child d g =
    decided
    (has_node_zero g ∷ ask 4 (given_below (size g) d.parent && given_below (size g) d.origin) ∷ ask 5 (well_formed d.fields.path) ∷ ask 6 (added_kind g (added_node g d)) ∷ ask 7 (has_room g (added_node g d)) ∷ [])
    g (size g) (with_node g (added_node g d))

-- ---- Setting fields of one node

-- node n becomes what f makes of it, where these questions pass too
abbrev pub sets : ℕ → List Question → (Node → Node) → Graph → Outcome
sets n questions f g =
    decided (has_node_zero g ∷ ask 4 (ltb n (size g)) ∷ questions) g 0 (with_record g n (f (node_at g.nodes n)))

unfoldable pub mark : ℕ → ℕ → Graph → Outcome
mark n flags g = sets n (ask 6 (may_mark flags (node_at g.nodes n).arc) ∷ []) (marked flags) g

unfoldable pub set_first_spec : ℕ → Option ℕ → Graph → Outcome
set_first_spec n first g = sets n [] (with_first_spec first) g

-- "without recording which": the first position
unfoldable pub set_has_specs : ℕ → Bool → Graph → Outcome
set_has_specs n authored g = set_first_spec n (cond authored (Some 0) None) g

unfoldable pub set_restriction_depth : ℕ → ℕ → Graph → Outcome
set_restriction_depth n depth g = sets n [] (restricted_at depth) g

-- ---- Ordering

-- "Has every child list an order? Not asked of a finalized graph"; "a finalized graph is returned
-- unchanged"
unfoldable pub finalize_strength_order : Graph → Outcome
finalize_strength_order g =
    decided (has_node_zero g ∷ ask 9 (g.finalized || has_order g) ∷ []) g 0 (cond g.finalized g (ordering g))

-- ---- Culling and erasing

unfoldable pub cull : Graph → Outcome
cull g = decided (has_node_zero g ∷ []) g 0 (cull_subtrees_without_opinions g)

-- "answers how many are kept"
unfoldable pub erase_set : List ℕ → Graph → Outcome
erase_set bytes g =
    decided (has_node_zero g ∷ ask 11 (can_erase g bytes) ∷ []) g (new_number (stays bytes) (size g)) (erase bytes g)

-- ---- Deepening and seeding

-- "reached by deepening 7": no path passes 255 bytes
abbrev pub short_paths : List Node → Bool
short_paths [] = true
short_paths (x ∷ xs) = leb (length x.path) 255 && short_paths xs

abbrev pub paths_fit : Graph → Bool
paths_fit g = short_paths g.nodes && leb (path_bytes g.nodes) most_path_bytes

-- "Is the path well formed, and ending in a name where a child is named?"
abbrev pub deepen_questions : List ℕ → Graph → List Question
deepen_questions child g =
    has_node_zero g ∷ ask 5 (well_formed child && ends_in_name child) ∷ ask 7 (paths_fit (append_child_name_to_all_sites child g)) ∷ []

unfoldable pub append_child_name : List ℕ → Graph → Outcome
append_child_name child g = decided (deepen_questions child g) g 0 (append_child_name_to_all_sites child g)

-- from the graph that is read into a second room, which keeps what it had where the call is refused
unfoldable pub seed_child : List ℕ → Graph → Graph → Outcome
seed_child child from into = decided (deepen_questions child from) into 0 (append_child_name_to_all_sites child from)

-- ---- Reading a snapshot: "Chains come back in node order, not ordered, shallow found anew"

-- the rest of the reading where a record passes, and its refusal where it does not
abbrev pub read_if : ℕ → Outcome → Graph → Outcome
read_if zero rest old = rest
read_if (suc number) rest old = unchanged (suc number) old

-- the records from the first on, each put its questions; `old` is what a refusal leaves
abbrev pub read_on : Graph → Graph → List Node → Outcome
read_on old g [] = record { refused = 0; value = size g; graph = g }
read_on old g (x ∷ xs) = read_if (refusal (record_questions g x)) (read_on old (with_node g x) xs) old

abbrev pub read_or12 : Option (List Node) → Graph → Outcome
read_or12 None old = unchanged 12 old
read_or12 (Some xs) old = read_on old empty_graph xs

unfoldable pub read_into : List ℕ → Graph → Outcome
read_into bytes old = read_or12 (read_snapshot bytes) old

-- ---- The calls that write a graph, and a list of them

pub data Call : Type 0 where
  starting : ℕ → ℕ → List ℕ → Call
  adding : NodeDesc → Call
  orders : Call
  culls : Call
  erasing : List ℕ → Call
  deepening : List ℕ → Call
  reading : List ℕ → Call
  marking : ℕ → ℕ → Call
  setting_first_spec : ℕ → Option ℕ → Call
  setting_has_specs : ℕ → Bool → Call
  setting_restriction : ℕ → ℕ → Call

abbrev pub call : Call → Graph → Outcome
call (starting stack layer path) g = init_root stack layer path g
call (adding d) g = add_child d g
call orders g = finalize_strength_order g
call culls g = cull g
call (erasing bytes) g = erase_set bytes g
call (deepening child) g = append_child_name child g
call (reading bytes) g = read_into bytes g
call (marking n flags) g = mark n flags g
call (setting_first_spec n first) g = set_first_spec n first g
call (setting_has_specs n authored) g = set_has_specs n authored g
call (setting_restriction n depth) g = set_restriction_depth n depth g

abbrev pub calls : List Call → Graph → Graph
calls [] g = g
calls (c ∷ cs) g = calls cs (call c g).graph

-- ---- The calls that only read: their refusal; their value is the definition's

abbrev pub reads_node : Graph → ℕ → List Question
reads_node g n = has_node_zero g ∷ ask 4 (ltb n (size g)) ∷ []

abbrev pub compares_nodes : Graph → ℕ → ℕ → List Question
compares_nodes g a b = has_node_zero g ∷ ask 4 (ltb a (size g) && ltb b (size g)) ∷ []

-- "Have two siblings one parent? A node with itself passes, node 0 too."
abbrev pub compares_siblings : Graph → ℕ → ℕ → List Question
compares_siblings g a b =
    has_node_zero g ∷ ask 4 (ltb a (size g) && ltb b (size g))
    ∷ ask 8 (eqb a b || eqb (node_at g.nodes a).parent (node_at g.nodes b).parent) ∷ []

abbrev pub uses_site : Graph → List ℕ → List Question
uses_site g path = has_node_zero g ∷ ask 5 (well_formed path) ∷ []

-- "Is the graph ordered (reading the order)?"
abbrev pub reads_order : Graph → List Question
reads_order g = has_node_zero g ∷ ask 10 g.ordered ∷ []

-- one entry by its place, which is below the count as a node's number is
abbrev pub reads_entry : Graph → ℕ → List Question
reads_entry g place = has_node_zero g ∷ ask 4 (ltb place (size g)) ∷ ask 10 g.ordered ∷ []
