-- What the passes of the reader promise each other: a field or that it is missing; question 12 over
-- all of the bytes; the nodes of bytes that pass it; and the questions of the records. What reading
-- comes to in the end is model/specs/Calls.antt's `read_into`.
use Rattle.std.specs.Prelude.{Err, None, Ok, Option, Result, Some, ⊤}
use Rattle.model.specs.declared.Refusal.{Refusal}
use Rattle.std.specs.Prelude.{◌≡◌, Bool, true, cond, List, [], ℕ, ◌+◌, ◌≤◌, ◌<◌, leb, length, drop, get_or}
use Rattle.model.specs.Path.{prim_count}
use Rattle.model.specs.Node.{Node}
use Rattle.model.specs.Graph.{empty_graph, node_at}
use Rattle.model.specs.Snapshot.{field, fits_record, read_snapshot}
use Rattle.model.specs.Refusals.{Question}
use Rattle.model.specs.Answers.{answer_refusal}
use Rattle.model.specs.Calls.{read_into}
use Rattle.model.specs.declared.Refusal.TheVariants.{Snapshot}
use Rattle.validate.specs.declared.record.Before.{Before}
use Rattle.validate.specs.RecordCheck.{numbers_of, questions_at}

-- ---- Fields: "The reader takes each field or stops at the first that is missing"

-- w bytes from `at` on
abbrev pub field_at : ℕ → ℕ → List ℕ → Option ℕ
field_at at w bytes = cond (leb (at + w) (length bytes)) (Some (field at w bytes)) None

-- "2 bytes with the length of the rest of its record (28 to 282, else question 12 fails)"
abbrev pub length_at : ℕ → List ℕ → Option ℕ
length_at at bytes = cond (fits_record (drop at bytes)) (Some (field at 2 bytes)) None

-- ---- Question 12

abbrev pub counted_as : Option (List Node) → Result ℕ Refusal
counted_as None = Err Snapshot
counted_as (Some xs) = Ok (length xs)

-- the nodes of bytes that pass it
abbrev pub nodes_or : Option (List Node) → List Node
nodes_or None = []
nodes_or (Some xs) = xs

abbrev pub nodes_read : List ℕ → List Node
nodes_read bytes = nodes_or (read_snapshot bytes)

-- the bytes pass, and have so many records
pub record Exact (bytes : List ℕ) (count : ℕ) : Type 0 where
  pub read : read_snapshot bytes ≡ Some (nodes_read bytes)
  pub counted : count ≡ length (nodes_read bytes)

-- a record stands at `at`, whole
pub record RecordAt (bytes : List ℕ) (at : ℕ) : Type 0 where
  pub long : 28 ≤ field at 2 bytes
  pub short : field at 2 bytes ≤ 282
  pub within : at + (2 + field at 2 bytes) ≤ length bytes

-- ---- Questions 4 to 7

-- n nodes before a record, which may be culled
abbrev pub before_read : ℕ → ℕ → Bool → Before
before_read n path_bytes has_root = record { count = n; path_bytes = path_bytes; has_root = has_root; culled_allowed = true }

-- put to a node
abbrev pub questions_of : Before → Node → List Question
questions_of b x = questions_at b (numbers_of x) x.path

-- prims has the prim count of each node's path
abbrev pub Named : List Node → List ℕ → Type 0
Named xs prims = (k : ℕ) → k < length xs → get_or prims k 0 ≡ prim_count (node_at xs k).path

-- the refusal of reading the bytes, or none and the prim counts
pub record RecordsChecked (bytes : List ℕ) (r : Result ⊤ Refusal) (prims : List ℕ) : Type 0 where
  pub refused : answer_refusal r ≡ (read_into bytes empty_graph).refused
  pub named : answer_refusal r ≡ 0 → Named (nodes_read bytes) prims
