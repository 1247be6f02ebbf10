-- Question 2 of document 01, "Does the room hold a graph", as the tests that are put to an arena
-- one after the other: its marks, its records from the first on, its child lists
-- (crates/child_lists) and its order. proofs/HoldsTests.antt shows that together they are
-- model/specs/Arena.antt's `holds_graph`. A record is read by its fields, and put to what the
-- records before it come to: how many bytes of paths, and which local root.
use Rattle.std.specs.Prelude.{Bool, true, not, ◌||◌, ◌&&◌, cond, List, ℕ, zero, suc, ◌+◌, ◌-◌, eqb, ltb, leb}
use Rattle.model.specs.Lists.{count, all_below}
use Rattle.model.specs.Path.{prim_count}
use Rattle.model.specs.Node.{root_arc}
use Rattle.model.specs.Refusals.{Question, refusal}
use Rattle.model.specs.Arena.{count_in, ordered_in, shallow_in, local_root_in, order_entry_in, prim_count_in, record_length_in, node_in, tabulate, record_fits}
use Rattle.arena.specs.Slot.{arc_in, flags_in, parent_in, origin_in, depth_in, has_specs_in}
use Rattle.validate.specs.declared.record.RecordNumbers.{RecordNumbers}
use Rattle.validate.specs.declared.record.Before.{Before}
use Rattle.validate.specs.RecordCheck.{links_at, kind_at, room_at, questions_at}

-- ---- The marks, by their bytes

unfoldable pub marks_at : ℕ → ℕ → ℕ → Bool
marks_at ordered finalized shallow =
    leb ordered 1 && (leb finalized 1 && (leb shallow 1 && (eqb finalized 0 || (eqb ordered 1 && eqb shallow 0))))

-- ---- The records

-- the bytes of the paths below n
abbrev pub path_bytes_below : List ℕ → ℕ → ℕ
path_bytes_below bs zero = 0
path_bytes_below bs (suc n) = path_bytes_below bs n + (record_length_in bs n - 27)

-- the local root where node n comes after those that have the local root `root`; 0 for none
abbrev pub root_with : ℕ → ℕ → ℕ → ℕ
root_with n arc root = cond (ltb 0 n && eqb arc root_arc) n root

abbrev pub root_below : List ℕ → ℕ → ℕ
root_below bs zero = 0
root_below bs (suc n) = root_with n (arc_in bs n) (root_below bs n)

-- n records with so many bytes of paths and this local root, 0 for none; a node of an arena may be
-- culled
abbrev pub before_in : ℕ → ℕ → ℕ → Before
before_in n path_bytes root = record { count = n; path_bytes = path_bytes; has_root = not (eqb root 0); culled_allowed = true }

-- the numbers of node n that its questions read
abbrev pub numbers_in : List ℕ → ℕ → RecordNumbers
numbers_in bs n = record { arc = arc_in bs n; flags = flags_in bs n; parent = parent_in bs n; origin = origin_in bs n; has_specs = has_specs_in bs n }

abbrev pub questions_in : List ℕ → Before → List Question
questions_in bs b = questions_at b (numbers_in bs b.count) (node_in bs b.count).path

-- "shallow set where a parent is": node n's depth is at most the prim count of its parent, unless
-- the arena is marked
abbrev pub depth_valid : List ℕ → ℕ → Bool
depth_valid bs n = eqb n 0 || (leb (depth_in bs n) (prim_count_in bs (parent_in bs n)) || eqb (shallow_in bs) 1)

-- what the questions ask of the next node's numbers: its links, its kind and the room
unfoldable pub numbers_valid : List ℕ → Before → Bool
numbers_valid bs b =
    links_at b (numbers_in bs b.count) && (kind_at b (numbers_in bs b.count) && room_at b (record_length_in bs b.count - 27))

-- the next node's record
unfoldable pub record_valid_after : List ℕ → Before → Bool
record_valid_after bs b =
    record_fits bs b.count
    && (eqb (refusal (questions_in bs b)) 0
    && (eqb (prim_count_in bs b.count) (prim_count (node_in bs b.count).path) && depth_valid bs b.count))

abbrev pub record_valid : List ℕ → ℕ → Bool
record_valid bs n = record_valid_after bs (before_in n (path_bytes_below bs n) (root_below bs n))

-- each record is right, and the header has their local root
unfoldable pub records_valid : List ℕ → Bool
records_valid bs =
    all_below (record_valid bs) (count_in bs) && (eqb (count_in bs) 0 || eqb (local_root_in bs) (root_below bs (count_in bs)))

-- ---- The order

abbrev pub entries_in : List ℕ → ℕ → List ℕ
entries_in bs k = tabulate (order_entry_in bs) 0 k

abbrev pub entered_once : List ℕ → ℕ → Bool
entered_once bs n = eqb (count n (entries_in bs (count_in bs))) 1

-- "a marked order each node once"
unfoldable pub entries_valid : List ℕ → Bool
entries_valid bs = all_below (entered_once bs) (count_in bs)

unfoldable pub order_valid : List ℕ → Bool
order_valid bs = eqb (ordered_in bs) 0 || entries_valid bs
