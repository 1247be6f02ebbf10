-- The questions that a record is put (document 01's 4 to 7; model/specs/Refusals.antt's
-- `record_questions` and those of `add_child`), by what they read of the graph before it: how many
-- nodes it has, how many path bytes, and whether it has a local root; and by whether a culled node
-- is allowed. And what the check answers. proofs/RecordCheckLaws.antt ties them to a graph.
use Rattle.std.specs.Prelude.{Err, Ok, Result}
use Rattle.model.specs.declared.Refusal.{Refusal}
use Rattle.std.specs.Prelude.{◌≡◌, Bool, not, ◌||◌, ◌&&◌, cond, List, [], ◌∷◌, ℕ, ◌+◌, eqb, ltb, leb, length}
use Rattle.model.specs.Path.{well_formed, prim_count}
use Rattle.model.specs.Node.{invalid, root_arc, Node, has_flag, inert_flag, culled_flag}
use Rattle.model.specs.Graph.{Graph, size, has_local_root}
use Rattle.model.specs.Refusals.{refusal_number, Question, ask, refusal, most_nodes, most_path_bytes, path_bytes}
use Rattle.validate.specs.declared.record.RecordNumbers.{RecordNumbers}
use Rattle.validate.specs.declared.record.Before.{Before}

-- those of a node
abbrev pub numbers_of : Node → RecordNumbers
numbers_of x = record { arc = x.arc; flags = x.flags; parent = x.parent; origin = x.origin; has_specs = x.has_specs }

-- a graph before a node, and whether it may be culled
abbrev pub before_next : Graph → Bool → Before
before_next g culled = record {
  count = size g;
  path_bytes = path_bytes g.nodes;
  has_root = has_local_root g.nodes;
  culled_allowed = culled;
}

-- ---- The questions

abbrev pub root_at : RecordNumbers → Bool
root_at x = eqb x.arc root_arc && (has_flag inert_flag x.flags && (eqb x.parent invalid && eqb x.origin invalid))

abbrev pub links_at : Before → RecordNumbers → Bool
links_at b x = cond (eqb b.count 0) (root_at x) (ltb x.parent b.count && ltb x.origin b.count)

-- where arc Root may stand
abbrev pub root_place_at : Before → RecordNumbers → Bool
root_place_at b x = eqb b.count 0 || (eqb x.parent 0 && not b.has_root)

abbrev pub arc_at : Before → RecordNumbers → Bool
arc_at b x = leb x.arc 6 && (not (eqb x.arc root_arc) || root_place_at b x)

-- "CULLED may not be added"; in a snapshot "CULLED is allowed unless the arc is Root"
abbrev pub culled_at : Before → RecordNumbers → Bool
culled_at b x = cond b.culled_allowed (not (eqb x.arc root_arc && has_flag culled_flag x.flags)) (not (has_flag culled_flag x.flags))

abbrev pub kind_at : Before → RecordNumbers → Bool
kind_at b x = arc_at b x && (culled_at b x && leb x.has_specs 1)

-- what is left of it for arc Root
abbrev pub root_kind_at : Before → RecordNumbers → Bool
root_kind_at b x = root_place_at b x && not (has_flag culled_flag x.flags)

abbrev pub room_at : Before → ℕ → Bool
room_at b path_length = ltb b.count most_nodes && leb (b.path_bytes + path_length) most_path_bytes

abbrev pub questions_at : Before → RecordNumbers → List ℕ → List Question
questions_at b x path =
    ask 4 (links_at b x) ∷ ask 5 (well_formed path) ∷ ask 6 (kind_at b x) ∷ ask 7 (room_at b (length path)) ∷ []

-- ---- The answer

abbrev pub checked_refusal : Result ℕ Refusal → ℕ
checked_refusal (Ok prims) = 0
checked_refusal (Err r) = refusal_number r

abbrev pub checked_prims : Result ℕ Refusal → ℕ
checked_prims (Ok prims) = prims
checked_prims (Err r) = 0

-- the first no of the questions; an accepted record has its path's prim count
pub record RecordChecked (questions : List Question) (path : List ℕ) (r : Result ℕ Refusal) : Type 0 where
  pub refused : checked_refusal r ≡ refusal questions
  pub prims : checked_refusal r ≡ 0 → checked_prims r ≡ prim_count path
