-- Document 01, "The twelve questions": the number of each refusal, and the tests on nodes and
-- graphs that the questions put. Questions 1 and 2 are about lent bytes; 8 to 12 stand with their
-- definitions (Order, Erasing, Snapshot) and in Calls.antt.
use Rattle.std.specs.Prelude.{Bool, not, ◌||◌, ◌&&◌, cond, List, [], ◌∷◌, ℕ, ◌+◌, eqb, ltb, leb, length}
use Rattle.model.specs.Path.{well_formed}
use Rattle.model.specs.Node.{invalid, root_arc, Node, is_inert, is_culled}
use Rattle.model.specs.Graph.{Graph, size, has_local_root}
use Rattle.model.specs.declared.Refusal.{Refusal}
use Rattle.model.specs.declared.Refusal.TheVariants.{Size, NotAGraph, NodeZero, Node as NodeNumber, Path, Kind, Capacity, NotSiblings, NoOrder, NotOrdered, EraseSet, Snapshot}

abbrev pub refusal_number : Refusal → ℕ
refusal_number Size = 1
refusal_number NotAGraph = 2
refusal_number NodeZero = 3
refusal_number NodeNumber = 4
refusal_number Path = 5
refusal_number Kind = 6
refusal_number Capacity = 7
refusal_number NotSiblings = 8
refusal_number NoOrder = 9
refusal_number NotOrdered = 10
refusal_number EraseSet = 11
refusal_number Snapshot = 12

-- ---- "Put in this order where they apply; the first no is the answer"

-- a question's number, and whether its answer is yes
pub record Question : Type 0 where
  pub number : ℕ
  pub passes : Bool

-- the first no; 0 where there is none
abbrev pub refusal : List Question → ℕ
refusal [] = 0
refusal (q ∷ qs) = cond q.passes (refusal qs) q.number

abbrev pub ask : ℕ → Bool → Question
ask number passes = record { number = number; passes = passes }

-- ---- The limits of question 7

abbrev pub most_nodes : ℕ
most_nodes = 1024

abbrev pub most_path_bytes : ℕ
most_path_bytes = 32768

abbrev pub path_bytes : List Node → ℕ
path_bytes [] = 0
path_bytes (x ∷ xs) = length x.path + path_bytes xs

-- "Do 1,024 nodes, 32,768 path bytes as the sum now held" suffice for a node more?
abbrev pub has_room : Graph → Node → Bool
has_room g x = ltb (size g) most_nodes && leb (path_bytes g.nodes + length x.path) most_path_bytes

-- ---- Question 6: "Are arc, flags and has-specs allowed?"

-- "Arc Root is for node 0 and for one child of it, the local root; anywhere else, or a second time,
-- it fails question 6"
abbrev pub arc_allowed : Graph → Node → Bool
arc_allowed g x =
    leb x.arc 6 && (not (eqb x.arc root_arc) || (eqb (size g) 0 || (eqb x.parent 0 && not (has_local_root g.nodes))))

abbrev pub has_specs_allowed : Node → Bool
has_specs_allowed x = leb x.has_specs 1

-- "CULLED may not be added"
abbrev pub added_kind : Graph → Node → Bool
added_kind g x = arc_allowed g x && (not (is_culled x) && has_specs_allowed x)

-- in a snapshot "CULLED is allowed unless the arc is Root (6)"
abbrev pub read_kind : Graph → Node → Bool
read_kind g x = arc_allowed g x && (not (eqb x.arc root_arc && is_culled x) && has_specs_allowed x)

-- ---- A record of a snapshot, put to a graph that holds the records before it

-- "Record 0 has arc Root, INERT set, no parent and no origin"
abbrev pub root_record : Node → Bool
root_record x = eqb x.arc root_arc && (is_inert x && (eqb x.parent invalid && eqb x.origin invalid))

-- question 4: "a wrong record 0 or a parent or origin not lower is 4"
abbrev pub links_allowed : Graph → Node → Bool
links_allowed g x = cond (eqb (size g) 0) (root_record x) (ltb x.parent (size g) && ltb x.origin (size g))

-- "Asked before 4 to 7 in a snapshot; those go record by record"
abbrev pub record_questions : Graph → Node → List Question
record_questions g x =
    ask 4 (links_allowed g x) ∷ ask 5 (well_formed x.path) ∷ ask 6 (read_kind g x) ∷ ask 7 (has_room g x) ∷ []
