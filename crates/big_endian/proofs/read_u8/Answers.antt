-- `read_u8` meets its contract: a byte is the field of width 1. Assumes nothing.
use native.Mathlib.Omega.{arith}
use Rattle.big_endian.proofs.ByteLaws.{field-loads}
use Rattle.big_endian.proofs.read_u8.Goals as goal

pub returns : goal.returns
returns c =
    omega (arith, field-loads c.args.at 1 c.args.bytes.now c.requires)
