-- The answers of the calls: of each the document's number of its refusal (0 where there is none), and
-- its value (0 where it is refused; no node where it is one).
use Rattle.std.specs.Prelude.{Bool, Option, None, Some, Result, Ok, Err, ℕ}
use Rattle.std.specs.declared.cmp.Ordering.{Ordering}
use Rattle.std.specs.declared.cmp.Ordering.TheVariants.{Less, Equal, Greater}
use Rattle.model.specs.declared.NodeId.{NodeId}
use Rattle.model.specs.declared.Refusal.{Refusal}
use Rattle.model.specs.Lists.{bit}
use Rattle.model.specs.Node.{invalid}
use Rattle.model.specs.Refusals.{refusal_number}

-- ---- What may be missing

abbrev pub node_option : Option NodeId → Option ℕ
node_option None = None
node_option (Some n) = Some n.0

-- a node that there may not be as a number
abbrev pub node_number : Option ℕ → ℕ
node_number None = invalid
node_number (Some n) = n

-- ---- The answers

abbrev pub answer_refusal : {T : Type 0} → Result T Refusal → ℕ
answer_refusal (Ok x) = 0
answer_refusal (Err r) = refusal_number r

-- the value as a number, by what it says of each
abbrev pub answer_value : {T : Type 0} → (T → ℕ) → Result T Refusal → ℕ
answer_value value (Ok x) = value x
answer_value value (Err r) = 0

abbrev pub number_value : Result ℕ Refusal → ℕ
number_value = answer_value (λ n. n)

-- an ordering as a number: 0 where the first is the stronger, 1 for one node twice, 2 where the
-- second is
abbrev pub ordering_number : Ordering → ℕ
ordering_number Less = 0
ordering_number Equal = 1
ordering_number Greater = 2

abbrev pub ordering_value : Result Ordering Refusal → ℕ
ordering_value = answer_value ordering_number

-- 1 for yes and 0 for no
abbrev pub bool_value : Result Bool Refusal → ℕ
bool_value = answer_value bit

abbrev pub node_value : Result (Option NodeId) Refusal → Option ℕ
node_value (Ok n) = node_option n
node_value (Err r) = None

-- bytes that are no path fail question 5
abbrev pub prim_count_refusal : Option ℕ → ℕ
prim_count_refusal None = 5
prim_count_refusal (Some n) = 0

abbrev pub prim_count_value : Option ℕ → ℕ
prim_count_value None = 0
prim_count_value (Some n) = n
