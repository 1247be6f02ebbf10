-- What the call that culls answers and leaves, by model/specs/Calls.antt and ArenaCalls.antt.
use Rattle.std.specs.Prelude.{Result, ⊤}
use Rattle.model.specs.declared.Refusal.{Refusal}
use Rattle.std.specs.Prelude.{List, ℕ}
use Rattle.model.specs.Calls.{cull}
use Rattle.model.specs.ArenaCalls.{on_arena, Finishes}

-- culling: the refusal, and the arena after it
abbrev pub Culled : List ℕ → Result ⊤ Refusal → List ℕ → Type 0
Culled before r after = Finishes (on_arena cull before) before r after
