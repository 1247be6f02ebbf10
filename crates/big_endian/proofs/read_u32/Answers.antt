-- `read_u32` meets its contract: the four loaded bytes, the highest first, are the field. Assumes nothing.
use mathlib.Core.Path.{◌≡◌, sym, ◌∙◌}
use native.Mathlib.Omega.{arith}
use Rattle.model.specs.Snapshot.{value}
use Rattle.big_endian.proofs.ByteLaws.{field-loads, loads}
use Rattle.big_endian.proofs.read_u32.Goals as goal

pub returns : goal.returns
returns c =
    let joined : c.from_be_bytes.result ≡ value (loads c.args.at 4 c.args.bytes.now) = c.from_be_bytes.ensures ∙ omega arith in
    joined ∙ sym (field-loads c.args.at 4 c.args.bytes.now c.requires)
