-- What the calls that read the order answer and leave, by model/specs/Calls.antt and
-- ArenaCalls.antt.
use Rattle.std.specs.Prelude.{Result}
use Rattle.model.specs.declared.Refusal.{Refusal}
use Rattle.std.specs.Prelude.{◌≡◌, ◌&&◌, cond, List, [], ◌∷◌, ◌++◌, ℕ, eqb, length}
use Rattle.model.specs.Bytes.{stored}
use Rattle.model.specs.Snapshot.{big_endian}
use Rattle.model.specs.Refusals.{Question, ask, refusal}
use Rattle.model.specs.Calls.{reads_order}
use Rattle.model.specs.Arena.{count_in, order_entry_in, tabulate, decode, holds_graph}
use Rattle.model.specs.ArenaCalls.{is_arena, Answered}

-- the order as bytes: a node's number in 4 bytes each
abbrev pub order_bytes : List ℕ → List ℕ
order_bytes [] = []
order_bytes (n ∷ ns) = big_endian 4 n ++ order_bytes ns

-- the entries in an arena, which are its graph's order where it is ordered
abbrev pub entries_in : List ℕ → List ℕ
entries_in bs = tabulate (order_entry_in bs) 0 (count_in bs)

-- question 1 is put of both buffers
abbrev pub list_questions : List ℕ → List ℕ → List Question
list_questions arena out = ask 1 (is_arena arena && eqb (length out) 4096) ∷ ask 2 (holds_graph arena) ∷ reads_order (decode arena)

-- how many nodes the order has, and its bytes at the front of the buffer, whose other bytes stay;
-- refused, all of them do
pub record OrderWritten (arena out : List ℕ) (r : Result ℕ Refusal) (after : List ℕ) : Type 0 where
  pub answer : Answered (list_questions arena out) (length (decode arena).order) r
  pub bytes : after ≡ cond (eqb (refusal (list_questions arena out)) 0) (stored 0 (order_bytes (decode arena).order) out) out
