-- The number of an accepted call; and seeding gives no value. Assumes nothing.
use mathlib.Core.Path.{◌≡◌, refl, sym, ap, ◌∙◌}
use mathlib.Core.Bool.{Bool, true, false, cond}
use mathlib.Core.List.{List}
use Prim.Native.Nat.{ℕ}
use native.Mathlib.Nat.{zero-add}
use Rattle.model.specs.Graph.{empty_graph}
use Rattle.model.specs.Deepening.{append_child_name_to_all_sites}
use Rattle.model.specs.Calls.{unchanged, deepen_questions, seed_child}
use Rattle.model.specs.Arena.{decode, holds_graph}
use Rattle.model.specs.ArenaCalls.{is_arena, into_arena, value_unless}
use Rattle.c_api.specs.Carried.{carried}
use Rattle.c_api.proofs.FinishLaws.{no_value}
use Rattle.deepening.specs.ChildNames.{seed_from}

-- the number that carries an accepted call's answer
pub accepted-number : {k n answer : ℕ} → 0 ≡ k → n ≡ answer → n ≡ carried k (value_unless k answer)
accepted-number {k} {n} {answer} e v = v ∙ sym (zero-add answer) ∙ ap (λ (j : ℕ). carried j (value_unless j answer)) e

-- ---- Seeding

pub seed-value : (child from bs : List ℕ) → (into_arena (seed_from child from) bs).value ≡ 0
unfolding into_arena seed_from seed_child
seed-value child from bs = go (is_arena bs) (is_arena from) (holds_graph from)
  where
    go : (s t h : Bool)
        → (cond s (cond t (cond h (seed_child child (decode from) empty_graph) (unchanged 2 empty_graph)) (unchanged 1 empty_graph)) (unchanged 1 empty_graph)).value ≡ 0
    go true true true = no_value (deepen_questions child (decode from)) empty_graph (append_child_name_to_all_sites child (decode from))
    go true true false = refl
    go true false h = refl
    go false t h = refl
