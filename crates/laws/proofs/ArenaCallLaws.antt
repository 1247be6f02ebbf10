-- What the first questions of a call say of all of them (`refused-before`, `passed-opened`), and
-- the answers that are right: one law for each way a call can end, whatever its questions are.
-- Assumes nothing.
use Rattle.std.specs.Prelude.{Err, Ok, Option, Result}
use Rattle.model.specs.declared.NodeId.{NodeId}
use mathlib.Core.Path.{◌≡◌, refl, sym, ap, ◌∙◌}
use mathlib.Core.Bool.{Bool, true, false, ◌&&◌, cond}
use mathlib.Core.List.{List, [], ◌∷◌, ◌++◌}
use Prim.Native.Nat.{ℕ, zero, suc}
use native.Mathlib.Omega.{arith}
use lib.ListN.{length}
use borrow.Author.Tests.{eq-eqb, ne_eqb, eqb-true}
use Rattle.model.specs.Graph.{Graph}
use Rattle.model.specs.Refusals.{refusal_number, Question, ask, refusal}
use Rattle.model.specs.Calls.{Outcome, unchanged, settled, decided}
use Rattle.model.specs.Arena.{arena_bytes, decode, encode, holds_graph}
use Rattle.model.specs.Answers.{answer_refusal, number_value, node_option}
use Rattle.model.specs.ArenaCalls.{is_arena, ValidArena, on_arena, Wrote, Finishes, ask_arena, value_unless, Answers, Answered, AnsweredNode, PutPath}
use Rattle.model.specs.Bytes.{stored}
use Rattle.model.specs.Node.{optional}
use Rattle.model.specs.declared.Refusal.{Refusal}
use Rattle.model.specs.declared.Refusal.TheVariants.{Size, NotAGraph, NodeZero, Node as NodeNumber, Path, Kind, Capacity, NotSiblings, NoOrder, NotOrdered, EraseSet, Snapshot}

-- ---- Refusals

-- no question has the number 0
pub refusal-some : (r : Refusal) → refusal_number r ≡ 0 → ⊥
refusal-some Size e = omega arith
refusal-some NotAGraph e = omega arith
refusal-some NodeZero e = omega arith
refusal-some NodeNumber e = omega arith
refusal-some Path e = omega arith
refusal-some Kind e = omega arith
refusal-some Capacity e = omega arith
refusal-some NotSiblings e = omega arith
refusal-some NoOrder e = omega arith
refusal-some NotOrdered e = omega arith
refusal-some EraseSet e = omega arith
refusal-some Snapshot e = omega arith

-- a refusal by the first questions is that of every list that begins with them
pub refused-before : (r : Refusal) (first more : List Question) → refusal_number r ≡ refusal first → refusal_number r ≡ refusal (first ++ more)
refused-before r [] more e = absurd (refusal-some r e)
refused-before r (q ∷ first) more e = go q.passes e (refused-before r first more)
  where
    go : (passes : Bool) → refusal_number r ≡ cond passes (refusal first) q.number
        → (refusal_number r ≡ refusal first → refusal_number r ≡ refusal (first ++ more)) → refusal_number r ≡ cond passes (refusal (first ++ more)) q.number
    go true e rest = rest e
    go false e rest = e

module _ (questions : List Question) (value : ℕ) where
  pub answered-refused : (r : Refusal) → refusal_number r ≡ refusal questions → Answers questions value (refusal_number r) 0
  answered-refused r e = record { refused = e; value = go (refusal questions) e }
    where
      go : (k : ℕ) → refusal_number r ≡ k → 0 ≡ value_unless k value
      go zero z = absurd (refusal-some r z)
      go (suc k) z = refl

  pub answered-number : (n : ℕ) → refusal questions ≡ 0 → n ≡ value → Answers questions value 0 n
  answered-number n e v = record { refused = sym e; value = v ∙ ap (λ (k : ℕ). value_unless k value) (sym e) }

-- of a call that looks for a node
module _ (questions : List Question) (answer : ℕ) where
  pub found-refused : (r : Refusal) → refusal_number r ≡ refusal questions → AnsweredNode questions answer (Err r)
  found-refused r e = record { refused = e; value = rw (ne_eqb (refusal questions) 0 (λ z. refusal-some r (e ∙ z))) }

  pub found-node : (node : Option NodeId) → refusal questions ≡ 0 → node_option node ≡ optional answer → AnsweredNode questions answer (Ok node)
  found-node node e v = record { refused = sym e; value = rw (eq-eqb (refusal questions) 0 e) v }

-- of a call that puts a path into a buffer
module _ (questions : List Question) (path before : List ℕ) where
  pub put_refused : (r : Refusal) → refusal_number r ≡ refusal questions → PutPath questions path before (Err r) before
  put_refused r e = record {
    answered = answered-refused questions (length path) r e;
    buffer = rw (ne_eqb (refusal questions) 0 (λ z. refusal-some r (e ∙ z)));
  }

  pub put-done : (r : Result ℕ Refusal) (after p : List ℕ) → refusal questions ≡ 0 → p ≡ path
      → (answer_refusal r ≡ 0) × (number_value r ≡ length p) → after ≡ stored 0 p before → PutPath questions path before r after
  put-done r after p e same answer wrote = record {
    answered = record {
      refused = answer.0 ∙ sym e;
      value = answer.1 ∙ ap length same ∙ ap (λ (k : ℕ). value_unless k (length path)) (sym e);
    };
    buffer = rw (eq-eqb (refusal questions) 0 e) (wrote ∙ ap (λ (q : List ℕ). stored 0 q before) same);
  }

-- ---- Questions 1 and 2

module _ (bs : List ℕ) where
  pub not-arena : (qs : List Question) → is_arena bs ≡ false → refusal (ask_arena bs qs) ≡ 1
  not-arena qs e = rw e

  pub not-graph : (qs : List Question) → is_arena bs ≡ true → holds_graph bs ≡ false → refusal (ask_arena bs qs) ≡ 2
  not-graph qs e f = rw (e, f)

  pub asked-on : (qs : List Question) → ValidArena bs → refusal (ask_arena bs qs) ≡ refusal qs
  asked-on qs o = rw (eq-eqb (length bs) arena_bytes o.whole, o.holds)

  pub passed-opened : (qs : List Question) → refusal (ask_arena bs qs) ≡ 0 → ValidArena bs
  passed-opened qs e = go (is_arena bs) refl (holds_graph bs) refl e
    where
      go : (s : Bool) → is_arena bs ≡ s → (h : Bool) → holds_graph bs ≡ h → refusal (ask 1 s ∷ ask 2 h ∷ qs) ≡ 0 → ValidArena bs
      go true s true h e = record { whole = eqb-true (length bs) arena_bytes s; holds = h }
      go true s false h e = absurd (omega arith)
      go false s h q e = absurd (omega arith)

  -- what the count's answer says
  pub count-number : (value n : ℕ) → Answered (ask_arena bs []) value (Ok n) → ValidArena bs × (n ≡ value)
  count-number value n a = (passed-opened [] (sym a.refused), a.value ∙ ap (λ (k : ℕ). value_unless k value) (sym a.refused))

-- ---- Question 1 of a second buffer

module _ (bs : List ℕ) (sized : Bool) (qs : List Question) where
  -- question 1 of both, and question 2
  abbrev pub ask_both : List Question
  ask_both = ask 1 (is_arena bs && sized) ∷ ask 2 (holds_graph bs) ∷ qs

  pub buffer-refused : sized ≡ false → 1 ≡ refusal ask_both
  buffer-refused e = rw e (go (is_arena bs))
    where
      go : (s : Bool) → 1 ≡ refusal (ask 1 (s && false) ∷ ask 2 (holds_graph bs) ∷ qs)
      go true = refl
      go false = refl

  -- the questions of the arena are left
  pub buffer-passed : sized ≡ true → refusal ask_both ≡ refusal (ask_arena bs qs)
  buffer-passed e = rw e (go (is_arena bs))
    where
      go : (s : Bool) → refusal (ask 1 (s && true) ∷ ask 2 (holds_graph bs) ∷ qs) ≡ refusal (ask 1 s ∷ ask 2 (holds_graph bs) ∷ qs)
      go true = refl
      go false = refl

-- ---- The calls that write a graph

-- a call that comes to a refusal, or to a number and a graph
pub wrote-refused : (bs : List ℕ) (o : Outcome) (r : Refusal) → refusal_number r ≡ o.refused → o.value ≡ 0 → Wrote o bs (Err r) bs
wrote-refused bs o r e v = record { refused = e; value = sym v; arena = rw (ne_eqb o.refused 0 (λ z. refusal-some r (e ∙ z))) }

pub wrote-number : (bs after : List ℕ) (o : Outcome) (n : ℕ) → o.refused ≡ 0 → n ≡ o.value → after ≡ encode o.graph bs → Wrote o bs (Ok n) after
wrote-number bs after o n e v a = record { refused = sym e; value = v; arena = rw (eq-eqb o.refused 0 e) a }

module _ (bs : List ℕ) (f : Graph → Outcome) where
  pub on-opened : ValidArena bs → on_arena f bs ≡ f (decode bs)
  unfolding on_arena
  on-opened o = rw (eq-eqb (length bs) arena_bytes o.whole, o.holds)

  -- questions 1 and 2 and the call's own, in one list
  pub on-arena-asks : (questions : List Question) (value : ℕ) (result : Graph) → f (decode bs) ≡ decided questions (decode bs) value result
      → on_arena f bs ≡ decided (ask_arena bs questions) (decode bs) value result
  unfolding on_arena
  on-arena-asks questions value result e = go (is_arena bs) (holds_graph bs)
    where
      go : (s h : Bool)
          → cond s (cond h (f (decode bs)) (unchanged 2 (decode bs))) (unchanged 1 (decode bs))
          ≡ decided (ask 1 s ∷ ask 2 h ∷ questions) (decode bs) value result
      go true true = e
      go true false = refl
      go false h = refl

module _ (questions : List Question) (g : Graph) (value : ℕ) (result : Graph) where
  pub decided-accepted : refusal questions ≡ 0 → decided questions g value result ≡ record { refused = 0; value = value; graph = result }
  decided-accepted e = rw e

  -- by the call's own questions
  pub wrote-decided-refused : (bs : List ℕ) (r : Refusal) → refusal_number r ≡ refusal questions → Wrote (decided questions g value result) bs (Err r) bs
  wrote-decided-refused bs r e = go (refusal questions) refl
    where
      go : (k : ℕ) → refusal questions ≡ k → Wrote (settled k g value result) bs (Err r) bs
      go zero q = absurd (refusal-some r (e ∙ q))
      go (suc k) q = wrote-refused bs (unchanged (suc k) g) r (e ∙ q) refl

  pub wrote-decided : (bs after : List ℕ) (n : ℕ) → refusal questions ≡ 0 → n ≡ value → after ≡ encode result bs
      → Wrote (decided questions g value result) bs (Ok n) after
  wrote-decided bs after n e v a =
      rw (decided-accepted e) (wrote-number bs after (record { refused = 0; value = value; graph = result }) n refl v a)

  -- of a call that gives nothing but its refusal
  pub finishes-refused : (bs : List ℕ) (r : Refusal) → refusal_number r ≡ refusal questions → Finishes (decided questions g value result) bs (Err r) bs
  finishes-refused bs r e = let wrote = wrote-decided-refused bs r e in record { refused = wrote.refused; arena = wrote.arena }

  pub finishes-done : (bs after : List ℕ) → refusal questions ≡ 0 → after ≡ encode result bs → Finishes (decided questions g value result) bs (Ok tt) after
  finishes-done bs after e a = let wrote = wrote-decided bs after value e refl a in record { refused = wrote.refused; arena = wrote.arena }
