-- `store_ids` meets its contract: the four stores are one. Assumes nothing.
use mathlib.Core.List.{[], ◌∷◌}
use native.Mathlib.Omega.{arith}
use Rattle.model.specs.Snapshot.{big_endian}
use Rattle.arena.proofs.StoreLaws.{run-stored}
use Rattle.arena.proofs.store_ids.Goals as goal

pub returns : goal.returns
returns c =
    let x = c.args.node in
    run-stored c.args.at 21 (big_endian 4 x.stack ∷ big_endian 4 x.layer ∷ big_endian 4 x.parent.0 ∷ [])
    (big_endian 4 x.origin.0) c.args.arena.now _ (omega (arith, c.requires))
    (_, c.write_u32.ensures, (_, c.write_u32-2.ensures, (_, c.write_u32-3.ensures, c.write_u32-4.ensures)))
