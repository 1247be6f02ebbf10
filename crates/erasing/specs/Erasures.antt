-- What the calls that find the erasable set and erase a set answer and leave, by
-- model/specs/Calls.antt and ArenaCalls.antt.
use Rattle.std.specs.Prelude.{Result, ⊤}
use Rattle.model.specs.declared.Refusal.{Refusal}
use Rattle.std.specs.Prelude.{◌≡◌, Bool, ◌&&◌, cond, List, [], ◌∷◌, ℕ, eqb, length}
use Rattle.model.specs.Refusals.{Question, ask, refusal}
use Rattle.model.specs.Calls.{Outcome, unchanged, has_node_zero, erase_set}
use Rattle.model.specs.Erasing.{erasable}
use Rattle.model.specs.Arena.{decode, holds_graph}
use Rattle.model.specs.Answers.{answer_refusal}
use Rattle.model.specs.ArenaCalls.{is_arena, on_arena, Wrote}

-- question 1 is put of both buffers
abbrev pub is_set : List ℕ → List ℕ → Bool
is_set arena set = is_arena arena && eqb (length set) 1024

abbrev pub set_questions : List ℕ → List ℕ → List Question
set_questions arena set = ask 1 (is_set arena set) ∷ ask 2 (holds_graph arena) ∷ has_node_zero (decode arena) ∷ []

-- the erasable set in the lent bytes; refused, they are as they were
pub record ErasableWritten (arena set : List ℕ) (r : Result ⊤ Refusal) (after : List ℕ) : Type 0 where
  pub refused : answer_refusal r ≡ refusal (set_questions arena set)
  pub bytes : after ≡ cond (eqb (refusal (set_questions arena set)) 0) (erasable (decode arena)) set

-- erasing: the refusal, how many are kept, and the arena after it
unfoldable pub erase_in : List ℕ → List ℕ → Outcome
erase_in set bs = cond (is_set bs set) (on_arena (erase_set set) bs) (unchanged 1 (decode bs))

abbrev pub Erased : List ℕ → List ℕ → Result ℕ Refusal → List ℕ → Type 0
Erased set before r after = Wrote (erase_in set before) before r after
