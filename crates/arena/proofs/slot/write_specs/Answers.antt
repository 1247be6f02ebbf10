-- `write_specs` meets its contract: the two stores are one. Assumes nothing.
use mathlib.Core.List.{[], ◌∷◌}
use native.Mathlib.Omega.{arith}
use Rattle.model.specs.Snapshot.{big_endian}
use Rattle.model.specs.Arena.{slot_at}
use Rattle.arena.proofs.StoreLaws.{run-stored}
use Rattle.arena.proofs.slot.write_specs.Goals as goal

pub returns : goal.returns
returns c =
    run-stored (slot_at c.args.n) 43 (big_endian 2 c.args.spec_from ∷ []) (big_endian 1 c.args.has_specs) c.args.arena.now _
    (omega (arith, c.requires)) (_, c.write_u16.ensures, c.write_u8.ensures)
