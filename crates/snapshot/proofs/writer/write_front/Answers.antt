-- `write_front` meets its contract: the three stores are one. Assumes nothing.
use mathlib.Core.Path.{◌∙◌, ap}
use native.Mathlib.Omega.{arith}
use Rattle.model.specs.Bytes.{stored}
use Rattle.model.specs.Snapshot.{big_endian}
use Rattle.snapshot.proofs.WriterLaws.{front-stored}
use Rattle.snapshot.proofs.writer.write_front.Goals as goal

pub returns : goal.returns
returns c =
    c.write_u16.ensures
    ∙ ap (stored 5 (big_endian 2 c.args.count)) (c.write_u8.ensures ∙ ap (stored 4 (big_endian 1 1)) c.write_u32.ensures)
    ∙ front-stored c.args.following c.args.count c.args.out.now (omega (arith, c.requires))
