-- `write_bytes` meets its contract, by what the copy says of the part lent to it. Assumes nothing.
use native.Mathlib.Omega.{arith}
use Rattle.big_endian.proofs.ByteLaws.{part_copied}
use Rattle.big_endian.proofs.write_bytes.Goals as goal

pub returns : goal.returns
returns c = part_copied _ _ _ _ _ c.copy_from_slice.ensures.after (omega arith)
