-- `store_head` meets its contract: the four stores are one, and the prim count is its own byte.
-- Assumes nothing.
use mathlib.Core.Path.{ap, ◌∙◌}
use mathlib.Core.List.{List, [], ◌∷◌}
use Prim.Native.Nat.{ℕ, ◌+◌}
use native.Mathlib.Omega.{arith}
use Rattle.model.specs.Bytes.{stored}
use Rattle.model.specs.Snapshot.{big_endian}
use Rattle.arena.proofs.StoreLaws.{run-stored, one_byte}
use Rattle.arena.proofs.store_head.Goals as goal

pub returns : goal.returns
returns c =
    let count = ap (λ (p : List ℕ). stored (c.args.at + 16) p c.args.arena.now) (one_byte c.args.prim_count (omega arith)) in
    run-stored c.args.at 16 ((c.args.prim_count ∷ []) ∷ big_endian 2 c.args.node.record_length ∷ big_endian 1 c.args.node.arc ∷ [])
    (big_endian 1 c.args.node.flags) c.args.arena.now _ (omega (arith, c.requires))
    (_, c.write_u8.ensures ∙ count, (_, c.write_u16.ensures, (_, c.write_u8-2.ensures, c.write_u8-3.ensures)))
