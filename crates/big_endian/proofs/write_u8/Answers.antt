-- `write_u8` meets its contract: a byte is the one digit of itself. Assumes nothing.
use mathlib.Core.Path.{ap, ◌∙◌}
use native.Mathlib.Omega.{arith}
use lib.ListN.{set}
use Rattle.big_endian.proofs.ByteLaws.{digits-stored}
use Rattle.big_endian.proofs.write_u8.Goals as goal

pub returns : goal.returns
returns c =
    ap (set c.args.out.now c.args.at) (omega arith)
    ∙ digits-stored c.args.at 1 c.args.x c.args.out.now c.requires
