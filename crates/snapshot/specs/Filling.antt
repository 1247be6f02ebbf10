-- The node of a record by value, and what the reader's last pass asks: a record that may be
-- appended, and an arena that may be filled.
use Rattle.std.specs.Prelude.{◌≡◌, List, Option, Some, None, ℕ, ◌≤◌, length}
use Rattle.model.specs.Path.{prim_count}
use Rattle.model.specs.Graph.{empty_graph}
use Rattle.model.specs.Snapshot.{field, read_record}
use Rattle.model.specs.Refusals.{refusal, record_questions}
use Rattle.model.specs.Calls.{read_into}
use Rattle.model.specs.ArenaCalls.{ValidArena}
use Rattle.model.specs.Arena.{arena_bytes, count_in, decode}
use Rattle.arena.specs.declared.Node.{Node}
use Rattle.snapshot.specs.SnapshotReading.{nodes_read, Exact, Named}

-- x has the prim count, the record's length and its numbers
pub record NodeRead (body : List ℕ) (prims : ℕ) (x : Node) : Type 0 where
  pub prim_count : x.prim_count ≡ prims
  pub record_length : x.record_length ≡ length body
  pub arc : x.arc ≡ field 0 1 body
  pub flags : x.flags ≡ field 1 1 body
  pub stack : x.stack ≡ field 2 4 body
  pub layer : x.layer ≡ field 6 4 body
  pub parent : x.parent.0 ≡ field 10 4 body
  pub origin : x.origin.0 ≡ field 14 4 body
  pub depth : x.depth ≡ field 18 2 body
  pub sibling : x.sibling ≡ field 20 2 body
  pub restriction : x.restriction ≡ field 22 2 body
  pub spec_from : x.spec_from ≡ field 24 2 body
  pub has_specs : x.has_specs ≡ field 26 1 body

-- no field was missing
abbrev pub NodeTaken : List ℕ → ℕ → Option Node → Type 0
NodeTaken body prims (Some x) = NodeRead body prims x
NodeTaken body prims None = ⊥

-- the arena holds n nodes, and the record passes the questions after them
pub record CanAppendRecord (arena : List ℕ) (n : ℕ) (body : List ℕ) (prims : ℕ) : Type 0 where
  pub opened : ValidArena arena
  pub counted : n ≡ count_in arena
  pub accepted : refusal (record_questions (decode arena) (read_record body)) ≡ 0
  pub named : prims ≡ prim_count (read_record body).path
  pub numbered : 27 ≤ length body
  pub short : length body ≤ 282

-- a whole arena, and a snapshot that is accepted
pub record CanFill (arena bytes : List ℕ) (count : ℕ) (prims : List ℕ) : Type 0 where
  pub whole : length arena ≡ arena_bytes
  pub exact : Exact bytes count
  pub accepted : (read_into bytes empty_graph).refused ≡ 0
  pub named : Named (nodes_read bytes) prims
  pub long : length prims ≡ 1024
