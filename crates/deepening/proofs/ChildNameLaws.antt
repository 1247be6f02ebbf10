-- The questions of the calls that append a child's name: which is the first to refuse
-- (`refused-first` to `refused-no-room`, or `refused_none`), what is known where none does
-- (`can-deepen`), and the ways that the calls end (`deepen-refused`, `deepen-done`; `seed-refused`,
-- `seed-done`). Assumes nothing.
use Rattle.std.specs.Prelude.{Err, Ok}
use mathlib.Core.Path.{◌≡◌, refl, sym, ◌∙◌}
use mathlib.Core.Bool.{Bool, true, false, ◌&&◌, cond, and-eq-true_iff}
use mathlib.Core.List.{List, [], ◌∷◌}
use Prim.Native.Nat.{ℕ, ◌<◌}
use native.Mathlib.Omega.{arith}
use lib.ListN.{length}
use borrow.Author.Tests.{eq-eqb, ne_eqb, eqb-true, lt-ltb, le-ltb, ltb-true}
use Rattle.model.specs.Graph.{Graph, empty_graph, size}
use Rattle.model.specs.Path.{well_formed, last_name, ends_in_name}
use Rattle.model.specs.Deepening.{deepen}
use Rattle.model.specs.Refusals.{refusal_number, Question, ask, refusal}
use Rattle.model.specs.Calls.{unchanged, decided, has_node_zero, paths_fit, deepen_questions, append_child_name, seed_child}
use Rattle.model.specs.Arena.{arena_bytes, count_in, decode, encode, holds_graph}
use Rattle.model.specs.ArenaCalls.{is_arena, ValidArena, on_arena, into_arena, ask_arena}
use Rattle.model.specs.declared.Refusal.{Refusal}
use Rattle.model.specs.declared.Refusal.TheVariants.{Size}
use Rattle.laws.proofs.AcceptedQuestions.{Accepted, none-refused-accepted}
use Rattle.laws.proofs.ArenaCallLaws.{refused-before, on-arena-asks, finishes-refused, finishes-done}
use Rattle.arena.proofs.ReadNodes.{sizes}
use Rattle.validate.proofs.AskingLaws.{node-zero-passed}
use Rattle.deepening.specs.Deepened.{CanDeepen}
use Rattle.deepening.specs.ChildNames.{Deepened, seed_from, Seeded}

-- ---- The questions

module _ (child bs : List ℕ) where
  -- questions 1 and 2 and the calls' own, in one list
  abbrev pub asked : List Question
  asked = ask_arena bs (deepen_questions child (decode bs))

  -- questions 5 and 7
  abbrev name_questions : List Question
  name_questions = ask 5 (well_formed child && ends_in_name child) ∷ ask 7 (paths_fit (deepen (last_name child) (decode bs))) ∷ []

  pub refused-first : (r : Refusal) → refusal_number r ≡ refusal (ask_arena bs (has_node_zero (decode bs) ∷ [])) → refusal_number r ≡ refusal asked
  refused-first r e = refused-before r (ask_arena bs (has_node_zero (decode bs) ∷ [])) name_questions e

  module _ (o : ValidArena bs) (some : 0 < count_in bs) where
    name-left : refusal asked ≡ refusal name_questions
    name-left = node-zero-passed bs name_questions o some

    pub refused-no-path : well_formed child ≡ false → 5 ≡ refusal asked
    refused-no-path e = sym (name-left ∙ rw e)

    module _ (right : well_formed child ≡ true) (name : List ℕ) (last : name ≡ last_name child) where
      pub refused-no-name : length name ≡ 0 → 5 ≡ refusal asked
      unfolding ends_in_name
      refused-no-name e = sym (name-left ∙ rw (right, ← last, le-ltb 0 (length name) (omega arith)))

      module _ (long : length name ≡ 0 → ⊥) where
        ends : ends_in_name child ≡ true
        unfolding ends_in_name
        ends = rw (← last) (lt-ltb 0 (length name) (omega (arith, long)))

        pub refused-no-room : paths_fit (deepen name (decode bs)) ≡ false → 7 ≡ refusal asked
        refused-no-room e = sym (name-left ∙ rw (right, ends, ← last, e))

        pub refused_none : paths_fit (deepen name (decode bs)) ≡ true → 0 ≡ refusal asked
        refused_none e = sym (name-left ∙ rw (right, ends, ← last, e))

-- ---- Where every question passes

module _ (child bs : List ℕ) where
  abbrev deepened : Graph
  deepened = deepen (last_name child) (decode bs)

  pub can-deepen : 0 ≡ refusal (asked child bs) → (name : List ℕ) → name ≡ last_name child → CanDeepen bs name
  can-deepen e name last = rw last (given (none-refused-accepted (asked child bs) refl (sym e)))
    where
      given : Accepted (asked child bs) → CanDeepen bs (last_name child)
      given a =
          let o : ValidArena bs = record { whole = eqb-true (length bs) arena_bytes (a 1); holds = a 2 } in
          let path = (and-eq-true_iff (well_formed child) (ends_in_name child)).0 (a 5) in
          record {
            opened = o;
            some-node = omega (arith, sizes bs o, ltb-true 0 (size (decode bs)) (a 3));
            named = record { child = child; right = path.0; ends = path.1; last = refl };
            fits = a 7;
          }

-- ---- In place

module _ (child bs : List ℕ) where
  deepen-asks : on_arena (append_child_name child) bs ≡ decided (asked child bs) (decode bs) 0 (deepened child bs)
  unfolding append_child_name
  deepen-asks = on-arena-asks bs (append_child_name child) (deepen_questions child (decode bs)) 0 (deepened child bs) refl

  pub deepen-refused : (r : Refusal) → refusal_number r ≡ refusal (asked child bs) → Deepened child bs (Err r) bs
  deepen-refused r e = rw deepen-asks (finishes-refused (asked child bs) (decode bs) 0 (deepened child bs) bs r e)

  pub deepen-done : 0 ≡ refusal (asked child bs) → (name : List ℕ) → name ≡ last_name child → (after : List ℕ)
      → after ≡ encode (deepen name (decode bs)) bs → Deepened child bs (Ok tt) after
  deepen-done e name last after a = rw deepen-asks (finishes-done (asked child bs) (decode bs) 0 (deepened child bs) bs after (sym e) (rw last at a))

-- ---- Into a second arena

module _ (child bs into : List ℕ) where
  -- question 1 of the arena that is filled, and then those of the one that is read
  abbrev both : List Question
  both = ask 1 (is_arena into) ∷ asked child bs

  seed-asks : into_arena (seed_from child bs) into ≡ decided both empty_graph 0 (deepened child bs)
  unfolding into_arena seed_from seed_child
  seed-asks = go (is_arena into) (is_arena bs) (holds_graph bs)
    where
      questions : List Question
      questions = deepen_questions child (decode bs)

      go : (t s h : Bool)
          → cond t (cond s (cond h (decided questions empty_graph 0 (deepened child bs)) (unchanged 2 empty_graph)) (unchanged 1 empty_graph)) (unchanged 1 empty_graph)
          ≡ decided (ask 1 t ∷ ask 1 s ∷ ask 2 h ∷ questions) empty_graph 0 (deepened child bs)
      go true true true = refl
      go true true false = refl
      go true false h = refl
      go false s h = refl

  pub seed-not-arena : (length into ≡ arena_bytes → ⊥) → Seeded child bs into (Err Size) into
  seed-not-arena h = rw seed-asks (finishes-refused both empty_graph 0 (deepened child bs) into Size (rw (ne_eqb (length into) arena_bytes h)))

  module _ (large : length into ≡ arena_bytes) where
    left-to-ask : refusal (asked child bs) ≡ refusal both
    left-to-ask = rw (eq-eqb (length into) arena_bytes large)

    pub seed-refused : (r : Refusal) → refusal_number r ≡ refusal (asked child bs) → Seeded child bs into (Err r) into
    seed-refused r e = rw seed-asks (finishes-refused both empty_graph 0 (deepened child bs) into r (e ∙ left-to-ask))

    pub seed-done : 0 ≡ refusal (asked child bs) → (name : List ℕ) → name ≡ last_name child → (after : List ℕ)
        → after ≡ encode (deepen name (decode bs)) into → Seeded child bs into (Ok tt) after
    seed-done e name last after a =
        rw seed-asks (finishes-done both empty_graph 0 (deepened child bs) into after (sym (e ∙ left-to-ask)) (rw last at a))
