-- What the programs in bench/ give and get, where crates/c_api has no word for it: three numbers
-- that carry no refusal, what two calls leave of a buffer, and the node that is added.
use Rattle.std.specs.Prelude.{None, Option, Some}
use Rattle.std.specs.Prelude.{◌≡◌, ◌&&◌, cond, List, ℕ, eqb, length}
use Rattle.model.specs.Lists.{bit}
use Rattle.model.specs.Bytes.{stored}
use Rattle.model.specs.Refusals.{refusal}
use Rattle.model.specs.Order.{has_order}
use Rattle.model.specs.Erasing.{erasable}
use Rattle.model.specs.Snapshot.{write_snapshot}
use Rattle.model.specs.Arena.{decode, holds_graph}
use Rattle.model.specs.ArenaCalls.{is_arena}
use Rattle.model.specs.Calls as calls
use Rattle.c_api.specs.Carried.{carried, carried_answer}
use Rattle.snapshot.specs.Snapshots.{write_questions}
use Rattle.erasing.specs.Erasures.{set_questions}

abbrev pub count_number : Option ℕ → ℕ
count_number (Some n) = n
count_number None = 65536

abbrev pub graph_number : List ℕ → ℕ
graph_number bs = bit (is_arena bs && holds_graph bs)

-- whether it is one, and has an order
abbrev pub order_number : List ℕ → ℕ
order_number bs = bit (is_arena bs && (holds_graph bs && has_order (decode bs)))

-- the number of a call that writes a snapshot, and the buffer after it: the snapshot at its front;
-- refused, it is as it was
pub record SnapshotCarried (arena out : List ℕ) (r : ℕ) (after : List ℕ) : Type 0 where
  pub number : r ≡ carried_answer (write_questions arena out) (length (write_snapshot (decode arena)))
  pub bytes : after ≡ cond (eqb (refusal (write_questions arena out)) 0) (stored 0 (write_snapshot (decode arena)) out) out

-- the number of a call that finds the erasable set, which has no value, and the lent bytes after
-- it: the set; refused, they are as they were
pub record ErasableCarried (arena set : List ℕ) (r : ℕ) (after : List ℕ) : Type 0 where
  pub number : r ≡ carried (refusal (set_questions arena set)) 0
  pub bytes : after ≡ cond (eqb (refusal (set_questions arena set)) 0) (erasable (decode arena)) set

-- a Reference under `parent`, its origin and depth missing, other fields 0
abbrev pub reference_desc : ℕ → List ℕ → calls.NodeDesc
reference_desc parent path = record {
  fields = record {
    arc = 4;
    flags = 0;
    stack = 0;
    layer = 0;
    parent = 0;
    origin = 0;
    depth = 0;
    sibling = 0;
    restriction = 0;
    spec_from = 0;
    has_specs = 0;
    path = path;
  };
  parent = Some parent;
  origin = None;
  depth = None;
}
