-- What writing a snapshot answers and leaves of the buffer that it is written to.
use Rattle.std.specs.Prelude.{Result}
use Rattle.model.specs.declared.Refusal.{Refusal}
use Rattle.std.specs.Prelude.{◌≡◌, ◌&&◌, cond, List, [], ◌∷◌, ℕ, eqb, length}
use Rattle.model.specs.Bytes.{stored}
use Rattle.model.specs.Snapshot.{write_snapshot}
use Rattle.model.specs.Refusals.{Question, ask, refusal}
use Rattle.model.specs.Arena.{decode, holds_graph}
use Rattle.model.specs.ArenaCalls.{is_arena, Answered}

-- question 1 is put of both buffers; "writing a snapshot" skips question 3
abbrev pub write_questions : List ℕ → List ℕ → List Question
write_questions arena out = ask 1 (is_arena arena && eqb (length out) 65536) ∷ ask 2 (holds_graph arena) ∷ []

-- the snapshot's length, and its bytes at the front of the buffer, whose other bytes stay; refused,
-- all of them do
pub record SnapshotWritten (arena out : List ℕ) (r : Result ℕ Refusal) (after : List ℕ) : Type 0 where
  pub answer : Answered (write_questions arena out) (length (write_snapshot (decode arena))) r
  pub bytes : after ≡ cond (eqb (refusal (write_questions arena out)) 0) (stored 0 (write_snapshot (decode arena)) out) out
