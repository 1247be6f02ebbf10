-- `write_state` meets its contract. Assumes nothing.
use mathlib.Core.Path.{ap, ◌∙◌}
use mathlib.Core.Bool.{true, not}
use Prim.Native.Nat.{ℕ}
use lib.Dec.{eqb}
use Rattle.arena.specs.Header.{marks_stored}
use Rattle.ordering.proofs.writing.write_state.Goals as goal

pub returns : goal.returns
returns c =
    c.write_state.ensures ∙ ap (λ (m : ℕ). marks_stored true (not (eqb m 1)) (eqb m 1) c.args.arena.now) c.shallow-shallow.ensures
