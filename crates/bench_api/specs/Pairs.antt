-- Comparisons added up, for the programs in bench/: over a list of pairs of node numbers, eight
-- bytes a pair, both big-endian. Every pair is asked before the first is compared.
use Rattle.std.specs.Prelude.{Bool, not, ◌||◌, ◌&&◌, cond, List, [], ◌∷◌, ℕ, zero, suc, ◌+◌, ◌*◌, ◌/◌, eqb, ltb, leb, length, Result, Ok, Err}
use Rattle.model.specs.Answers.{ordering_number}
use Rattle.model.specs.Arena.{count_in, holds_graph}
use Rattle.model.specs.ArenaCalls.{is_arena, value_unless}
use Rattle.model.specs.Refusals.{refusal_number, Question, ask, refusal}
use Rattle.model.specs.declared.Refusal.{Refusal}
use Rattle.model.specs.Snapshot.{field}
use Rattle.model.specs.Strength.{compare_node_strength, compare_sibling_node_strength}
use Rattle.std.specs.declared.cmp.Ordering.{Ordering}
use Rattle.c_api.specs.Carried.{carried}
use Rattle.view.specs.View.{view_in}

-- the two numbers of pair k
abbrev pub first_of : List ℕ → ℕ → ℕ
first_of ps k = field (8 * k) 4 ps

abbrev pub second_of : List ℕ → ℕ → ℕ
second_of ps k = field (8 * k + 4) 4 ps

-- ---- The questions

-- narrower than question 8 of the call, which lets node 0 with itself pass: below the questions no
-- node 0 is compared with a sibling
unfoldable pub are_siblings : List ℕ → ℕ → ℕ → Bool
are_siblings bs a b = ltb 0 a && (ltb 0 b && eqb ((view_in bs).parent a) ((view_in bs).parent b))

-- of one pair: are both nodes; and, where siblings are asked for, are they?
abbrev pub pair_questions : Bool → List ℕ → ℕ → ℕ → List Question
pair_questions siblings bs a b =
    ask 4 (ltb a (count_in bs) && ltb b (count_in bs)) ∷ ask 8 (not siblings || are_siblings bs a b) ∷ []

unfoldable pub pair_refused : Bool → List ℕ → ℕ → ℕ → ℕ
pair_refused siblings bs a b = refusal (pair_questions siblings bs a b)

-- a refusal, or the next where there is none
abbrev pub or_else : ℕ → ℕ → ℕ
or_else zero next = next
or_else (suc number) next = suc number

-- of the first k pairs: the refusal of the first that is refused, 0 where none is
abbrev pub pairs_refused : (ℕ → ℕ → ℕ) → List ℕ → ℕ → ℕ
pairs_refused refused ps zero = 0
pairs_refused refused ps (suc k) = or_else (pairs_refused refused ps k) (refused (first_of ps k) (second_of ps k))

abbrev pub most_pair_bytes : ℕ
most_pair_bytes = 8388608

abbrev pub call_questions : List ℕ → List ℕ → List Question
call_questions bs ps = ask 1 (is_arena bs && leb (length ps) most_pair_bytes) ∷ ask 2 (holds_graph bs) ∷ []

-- of a call: its own questions, then every pair's
unfoldable pub call_refused : Bool → List ℕ → List ℕ → ℕ
call_refused siblings bs ps = or_else (refusal (call_questions bs ps)) (pairs_refused (pair_refused siblings bs) ps (length ps / 8))

-- ---- The sum

unfoldable pub comparison : Bool → List ℕ → ℕ → ℕ → Ordering
comparison siblings bs a b = cond siblings (compare_sibling_node_strength (view_in bs) a b) (compare_node_strength (view_in bs) a b)

-- of the first k pairs
abbrev pub pair_sum : (ℕ → ℕ → Ordering) → List ℕ → ℕ → ℕ
pair_sum compare ps zero = 0
pair_sum compare ps (suc k) = pair_sum compare ps k + ordering_number (compare (first_of ps k) (second_of ps k))

-- ---- The answers

abbrev pub asked_number : Bool → List ℕ → List ℕ → ℕ
asked_number siblings bs ps = carried (call_refused siblings bs ps) 0

abbrev pub pairs_number : Bool → List ℕ → List ℕ → ℕ
pairs_number siblings bs ps =
    carried (call_refused siblings bs ps) (value_unless (call_refused siblings bs ps) (pair_sum (comparison siblings bs) ps (length ps / 8)))
