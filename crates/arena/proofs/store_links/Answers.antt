-- `store_links` meets its contract: the three stores are one. Assumes nothing.
use mathlib.Core.List.{[], ◌∷◌}
use native.Mathlib.Omega.{arith}
use Rattle.model.specs.Arena.{slot_at}
use Rattle.model.specs.Snapshot.{big_endian}
use Rattle.arena.proofs.StoreLaws.{run-stored-at}
use Rattle.arena.proofs.store_links.Goals as goal

pub returns : goal.returns
returns c =
    let x = c.args.node in
    run-stored-at (slot_at c.args.n) (big_endian 4 x.first_child.0) (big_endian 4 x.last_child.0 ∷ [])
    (big_endian 4 x.next_sibling.0) c.args.arena.now _ _ (omega (arith, c.requires))
    c.write_u32.ensures (_, c.write_u32-2.ensures, c.write_u32-3.ensures)
