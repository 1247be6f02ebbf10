-- `read_u16` meets its contract: the two loaded bytes, the higher first, are the field. Assumes nothing.
use mathlib.Core.Path.{◌≡◌, sym, ◌∙◌}
use native.Mathlib.Omega.{arith}
use Rattle.model.specs.Snapshot.{value}
use Rattle.big_endian.proofs.ByteLaws.{field-loads, loads}
use Rattle.big_endian.proofs.read_u16.Goals as goal

pub returns : goal.returns
returns c =
    let joined : c.from_be_bytes.result ≡ value (loads c.args.at 2 c.args.bytes.now) = c.from_be_bytes.ensures ∙ omega arith in
    joined ∙ sym (field-loads c.args.at 2 c.args.bytes.now c.requires)
