-- What the calls that append a child's name answer and leave, by model/specs/Calls.antt and
-- ArenaCalls.antt.
use Rattle.std.specs.Prelude.{Result, ⊤}
use Rattle.model.specs.declared.Refusal.{Refusal}
use Rattle.std.specs.Prelude.{cond, List, ℕ}
use Rattle.model.specs.Graph.{empty_graph}
use Rattle.model.specs.Calls.{Outcome, unchanged, append_child_name, seed_child}
use Rattle.model.specs.Arena.{decode, holds_graph}
use Rattle.model.specs.ArenaCalls.{is_arena, on_arena, into_arena, Finishes}

-- deepening in place: the refusal, and the arena after it
abbrev pub Deepened : List ℕ → List ℕ → Result ⊤ Refusal → List ℕ → Type 0
Deepened child before r after = Finishes (on_arena (append_child_name child) before) before r after

-- seeding: questions 1 and 2 of the arena that is read, question 1 of the one that is filled
unfoldable pub seed_from : List ℕ → List ℕ → Outcome
seed_from child from =
    cond (is_arena from) (cond (holds_graph from) (seed_child child (decode from) empty_graph) (unchanged 2 empty_graph)) (unchanged 1 empty_graph)

abbrev pub Seeded : List ℕ → List ℕ → List ℕ → Result ⊤ Refusal → List ℕ → Type 0
Seeded child from before r after = Finishes (into_arena (seed_from child from) before) before r after
