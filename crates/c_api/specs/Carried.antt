-- One number for a call's refusal and value, for callers in C. A value has 32 bits, so the number
-- tells both: the refusal is in its upper half, 0 where there is none, and the value in its lower
-- half, 0 where the call was refused.
use Rattle.std.specs.Prelude.{Option, Result, ⊤}
use Rattle.model.specs.declared.NodeId.{NodeId}
use Rattle.model.specs.declared.Refusal.{Refusal}
use Rattle.std.specs.Prelude.{◌≡◌, List, ℕ, ◌+◌, ◌*◌}
use Rattle.model.specs.Answers.{answer_refusal, answer_value, node_option, node_number}
use Rattle.model.specs.Refusals.{Question, refusal}
use Rattle.model.specs.Calls.{Outcome}
use Rattle.model.specs.ArenaCalls.{arena_after, value_unless}

-- "refusal's number times 4,294,967,296 plus the value"
abbrev pub carried : ℕ → ℕ → ℕ
carried number value = number * 4294967296 + value

-- the answer of a call whose value is told by `value`
abbrev pub carried_as : {T : Type 0} → (T → ℕ) → Result T Refusal → ℕ
carried_as value r = carried (answer_refusal r) (answer_value value r)

-- a node that was looked for
abbrev pub node_value_number : Option NodeId → ℕ
node_value_number node = node_number (node_option node)

-- no value
abbrev pub value_of_nothing : ⊤ → ℕ
value_of_nothing x = 0

-- the number of a call that puts these questions and gives this answer
abbrev pub carried_answer : List Question → ℕ → ℕ
carried_answer questions answer = carried (refusal questions) (value_unless (refusal questions) answer)

-- the number and the arena after a call that came to o
pub record WroteCarried (o : Outcome) (before : List ℕ) (r : ℕ) (after : List ℕ) : Type 0 where
  pub number : r ≡ carried o.refused o.value
  pub arena : after ≡ arena_after o before
