-- `write_state_byte` meets its contract: a mark is its own byte. Assumes nothing.
use mathlib.Core.Path.{ap, ◌∙◌}
use mathlib.Core.List.{List}
use Prim.Native.Nat.{ℕ}
use Rattle.model.specs.Bytes.{stored}
use Rattle.arena.proofs.StoreLaws.{bit_byte}
use Rattle.arena.proofs.header.write_state_byte.Goals as goal

pub returns : goal.returns
returns c =
    c.write_u8.ensures ∙ ap (λ (p : List ℕ). stored c.args.at p c.args.arena.now) (bit_byte c.args.set)
