-- `run_end` meets its contract. The loop's invariant: the children before `i` have the first one's
-- rank. Assumes nothing.
use native.Mathlib.Omega.{arith}
use Rattle.certificate.proofs.CertificateParts.{entry-readable}
use Rattle.certificate.proofs.lists.run_end.Goals as goal

pub entry_of-first-requires : goal.entry_of-first-requires
entry_of-first-requires c =
    entry-readable c.requires.given c.requires.part.0 c.args.start (omega arith) c.requires.part.1

pub entry_of-e-requires : goal.entry_of-e-requires
entry_of-e-requires c =
    entry-readable c.requires.given c.requires.part.0 c.loop-i.i (omega arith) c.loop-i-test.true
