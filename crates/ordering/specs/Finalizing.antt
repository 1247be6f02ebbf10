-- What the call that orders a graph answers and leaves, by model/specs/Calls.antt and
-- ArenaCalls.antt.
use Rattle.std.specs.Prelude.{Result, ⊤}
use Rattle.model.specs.declared.Refusal.{Refusal}
use Rattle.std.specs.Prelude.{List, ℕ}
use Rattle.model.specs.Calls.{finalize_strength_order}
use Rattle.model.specs.ArenaCalls.{on_arena, Finishes}

-- ordering: the refusal, and the arena after it
abbrev pub Finalized : List ℕ → Result ⊤ Refusal → List ℕ → Type 0
Finalized before r after = Finishes (on_arena finalize_strength_order before) before r after
