-- `copies_in_order` meets its contract. The loop's invariant: so far all are HAS_SPECIALIZES, of one
-- R where depths differ, each follows the one before it, and the authored ones rise. Assumes
-- nothing.
use Prim.Native.Nat.{◌+◌}
use native.Mathlib.Nat.{add_assoc}
use native.Mathlib.Omega.{arith}
use Rattle.certificate.proofs.CertificateParts.{entry-readable, entry-reached, later-read}
use Rattle.certificate.proofs.CopyParts.{copying-step, copying-ends}
use Rattle.certificate.proofs.SliceLaws.{part-length}
use Rattle.certificate.proofs.runs.copies_in_order.Goals as goal

pub entry_of-last-requires : goal.entry_of-last-requires
entry_of-last-requires c =
    entry-readable c.requires.given.0 c.requires.part.0 c.args.start (omega arith) c.requires.part.1

pub entry_of-e-requires : goal.entry_of-e-requires
entry_of-e-requires c =
    let here = later-read c.requires.given.0 c.requires.part.0 c.requires.part.1 c.loop-c.c-index c.loop-c-test.true in
    rw here.1 (entry-readable c.requires.given.0 c.requires.part.0 _ (omega arith) here.0)

pub comes_next-requires : goal.comes_next-requires
comes_next-requires c =
    let here = later-read c.requires.given.0 c.requires.part.0 c.requires.part.1 c.loop-c.c-index c.loop-c-test.true in (
      entry-reached c.requires.given.0 c.requires.part.0 c.requires.given.1 _ (omega arith) (omega arith) c.loop-c.invariant.entry,
      entry-reached c.requires.given.0 c.requires.part.0 c.requires.given.1 _ (omega arith) here.0 (rw here.1 at c.entry_of-e.ensures),
    )

pub loop-c-preserved : goal.loop-c-preserved
loop-c-preserved c =
    let here = later-read c.requires.given.0 c.requires.part.0 c.requires.part.1 c.loop-c.c-index c.loop-c-test.true in
    rw (← add_assoc (c.args.start + 1) c.loop-c.c-index 1)
    (copying-step c.loop-c.invariant (omega arith) (rw here.1 at c.entry_of-e.ensures) c.comes_next.ensures c.if-not-comes_next.false
    (c.rises.ensures c.if-not-rises.false) c.if_authored-sibling-in-loop-c.ensures c.if_authored-node-in-loop-c.ensures)

pub returns : goal.returns
returns c =
    let part = c.requires.part in
    let long = part-length c.args.sorted.now (c.args.start + 1) c.args.end (omega arith) (omega (arith, c.requires.given.0.long, part.0.high)) in
    λ e. copying-ends c.loop-c.invariant c.requires.given.0.opened c.requires.given.0.long part.0 c.requires.one_rank c.requires.one_depth
    (omega (arith, long, c.loop-c-test.false))
