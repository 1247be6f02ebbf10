-- `write_state` meets its contract: the three stores are one. Assumes nothing.
use mathlib.Core.List.{[], ◌∷◌}
use native.Mathlib.Omega.{arith}
use Rattle.model.specs.Lists.{bit}
use Rattle.arena.proofs.StoreLaws.{run-stored}
use Rattle.arena.proofs.header.write_state.Goals as goal

pub returns : goal.returns
returns c =
    run-stored 0 4 ((bit c.args.ordered ∷ []) ∷ (bit c.args.finalized ∷ []) ∷ []) (bit c.args.shallow ∷ []) c.args.arena.now _
    (omega (arith, c.requires))
    (_, c.write_state_byte.ensures, (_, c.write_state_byte-2.ensures, c.write_state_byte-3.ensures))
