-- `store_depths` meets its contract: the four stores are one. Assumes nothing.
use mathlib.Core.List.{[], ◌∷◌}
use native.Mathlib.Omega.{arith}
use Rattle.model.specs.Snapshot.{big_endian}
use Rattle.arena.proofs.StoreLaws.{run-stored}
use Rattle.arena.proofs.store_depths.Goals as goal

pub returns : goal.returns
returns c =
    let x = c.args.node in
    run-stored c.args.at 37 (big_endian 2 x.depth ∷ big_endian 2 x.sibling ∷ big_endian 2 x.restriction ∷ [])
    (big_endian 2 x.spec_from) c.args.arena.now _ (omega (arith, c.requires))
    (_, c.write_u16.ensures, (_, c.write_u16-2.ensures, (_, c.write_u16-3.ensures, c.write_u16-4.ensures)))
