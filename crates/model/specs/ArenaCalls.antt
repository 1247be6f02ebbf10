-- Each call on an arena: questions 1 and 2, then the call's own, and what it leaves of the bytes.
-- One lifting for the calls that write a graph, one for those that only read; the functions of
-- prim_graph promise no more and no less.
use Rattle.std.specs.Prelude.{None, Option, Result, ⊤}
use Rattle.model.specs.declared.NodeId.{NodeId}
use Rattle.model.specs.declared.Refusal.{Refusal}
use Rattle.std.specs.Prelude.{◌≡◌, Bool, true, ◌&&◌, cond, List, ◌∷◌, ℕ, zero, suc, ◌<◌, eqb, length}
use Rattle.model.specs.Graph.{Graph, empty_graph}
use Rattle.model.specs.Refusals.{Question, ask, refusal}
use Rattle.model.specs.Calls.{Outcome, unchanged}
use Rattle.model.specs.Arena.{arena_bytes, count_in, decode, encode, holds_graph}
use Rattle.model.specs.Lists.{bit}
use Rattle.model.specs.Bytes.{stored}
use Rattle.model.specs.Node.{optional}
use Rattle.model.specs.Answers.{answer_refusal, number_value, ordering_number, ordering_value, bool_value, node_value}
use Rattle.std.specs.declared.cmp.Ordering.{Ordering}

-- question 1: "Has each lent buffer the size docs/ gives its use"
abbrev pub is_arena : List ℕ → Bool
is_arena bs = eqb (length bs) arena_bytes

-- questions 1 and 2 pass
pub record ValidArena (bs : List ℕ) : Type 0 where
  pub whole : length bs ≡ arena_bytes
  pub holds : holds_graph bs ≡ true

-- and n is one of the nodes
pub record ValidNode (bs : List ℕ) (n : ℕ) : Type 0 where
  pub opened : ValidArena bs
  pub below : n < count_in bs

-- ---- The calls that write a graph

unfoldable pub on_arena : (Graph → Outcome) → List ℕ → Outcome
on_arena f bs = cond (is_arena bs) (cond (holds_graph bs) (f (decode bs)) (unchanged 2 (decode bs))) (unchanged 1 (decode bs))

-- "The room that reading or seeding fills is exempt" from question 2
unfoldable pub into_arena : Outcome → List ℕ → Outcome
into_arena o bs = cond (is_arena bs) o (unchanged 1 empty_graph)

-- "the first no is the answer, with value 0 and every lent byte unchanged"; accepted, the arena has
-- the new graph's bytes
abbrev pub arena_after : Outcome → List ℕ → List ℕ
arena_after o bs = cond (eqb o.refused 0) (encode o.graph bs) bs

-- the answer and the arena after a call that came to o
pub record Wrote (o : Outcome) (before : List ℕ) (r : Result ℕ Refusal) (after : List ℕ) : Type 0 where
  pub refused : answer_refusal r ≡ o.refused
  pub value : number_value r ≡ o.value
  pub arena : after ≡ arena_after o before

-- the same where a call gives nothing but its refusal
pub record Finishes (o : Outcome) (before : List ℕ) (r : Result ⊤ Refusal) (after : List ℕ) : Type 0 where
  pub refused : answer_refusal r ≡ o.refused
  pub arena : after ≡ arena_after o before

-- ---- The calls that only read

abbrev pub ask_arena : List ℕ → List Question → List Question
ask_arena bs questions = ask 1 (is_arena bs) ∷ ask 2 (holds_graph bs) ∷ questions

abbrev pub value_unless : ℕ → ℕ → ℕ
value_unless zero value = value
value_unless (suc number) value = 0

-- the refusal and the value of a call that puts these questions and gives this answer
pub record Answers (questions : List Question) (answer number given : ℕ) : Type 0 where
  pub refused : number ≡ refusal questions
  pub value : given ≡ value_unless (refusal questions) answer

abbrev pub Answered : List Question → ℕ → Result ℕ Refusal → Type 0
Answered questions answer r = Answers questions answer (answer_refusal r) (number_value r)

abbrev pub AnsweredOrder : List Question → Ordering → Result Ordering Refusal → Type 0
AnsweredOrder questions answer r = Answers questions (ordering_number answer) (answer_refusal r) (ordering_value r)

abbrev pub AnsweredTest : List Question → Bool → Result Bool Refusal → Type 0
AnsweredTest questions answer r = Answers questions (bit answer) (answer_refusal r) (bool_value r)

-- of a call that looks for a node; `invalid` for none
pub record AnsweredNode (questions : List Question) (answer : ℕ) (r : Result (Option NodeId) Refusal) : Type 0 where
  pub refused : answer_refusal r ≡ refusal questions
  pub value : node_value r ≡ cond (eqb (refusal questions) 0) (optional answer) None

-- ---- The calls that put a path into a lent buffer

-- question 1 of both buffers: that for a path has 255 bytes, "255 a path"
abbrev pub is_path_buffer : List ℕ → Bool
is_path_buffer buffer = eqb (length buffer) 255

abbrev pub ask_path : List ℕ → List ℕ → List Question → List Question
ask_path bs buffer questions = ask 1 (is_arena bs && is_path_buffer buffer) ∷ ask 2 (holds_graph bs) ∷ questions

-- the answer is the path's length, the path is at the front of the buffer, and past it is what was
-- there; refused, every byte is as it was
pub record PutPath (questions : List Question) (path before : List ℕ) (r : Result ℕ Refusal) (after : List ℕ) : Type 0 where
  pub answered : Answered questions (length path) r
  pub buffer : after ≡ cond (eqb (refusal questions) 0) (stored 0 path before) before
