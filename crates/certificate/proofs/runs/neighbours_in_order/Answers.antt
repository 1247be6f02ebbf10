-- `neighbours_in_order` meets its contract. The loop's invariant: so far no child is a copy, and
-- each is before the next. Assumes nothing.
use mathlib.Core.Path.{sym, ◌∙◌}
use Prim.Native.Nat.{◌+◌}
use native.Mathlib.Nat.{add-zero, add_assoc}
use native.Mathlib.Omega.{arith}
use borrow.Author.Tests.{not-false}
use Rattle.view.proofs.ViewLaws.{legal}
use Rattle.certificate.proofs.CertificateParts.{part-child, entry-readable, entry-reached, later-read, entry-keyed, neighbouring-start, neighbouring-step, neighbouring-ends}
use Rattle.certificate.proofs.SliceLaws.{part-length}
use Rattle.certificate.proofs.runs.neighbours_in_order.Goals as goal

pub entry_of-last-requires : goal.entry_of-last-requires
entry_of-last-requires c =
    entry-readable c.requires.given.0 c.requires.part.0 c.args.start (omega arith) c.requires.part.1

pub loop-c-init : goal.loop-c-init
loop-c-init c =
    rw add-zero
    (neighbouring-start c.entry_of-last.ensures
    (entry-keyed (legal c.args.arena.now c.requires.given.0.opened)
    (part-child c.requires.given.0.long c.requires.part.0 c.args.start (omega arith) c.requires.part.1) c.entry_of-last.ensures
    (not-false _ (sym c.is_copy.ensures ∙ c.if-is_copy.false))))

pub entry_of-e-requires : goal.entry_of-e-requires
entry_of-e-requires c =
    let here = later-read c.requires.given.0 c.requires.part.0 c.requires.part.1 c.loop-c.c-index c.loop-c-test.true in
    rw here.1 (entry-readable c.requires.given.0 c.requires.part.0 _ (omega arith) here.0)

pub is_before-requires : goal.is_before-requires
is_before-requires c =
    let here = later-read c.requires.given.0 c.requires.part.0 c.requires.part.1 c.loop-c.c-index c.loop-c-test.true in (
      entry-reached c.requires.given.0 c.requires.part.0 c.requires.given.1 _ (omega arith) (omega arith) c.loop-c.invariant.entry,
      entry-reached c.requires.given.0 c.requires.part.0 c.requires.given.1 _ (omega arith) here.0 (rw here.1 at c.entry_of-e.ensures),
    )

pub loop-c-preserved : goal.loop-c-preserved
loop-c-preserved c =
    let given = c.requires.given.0 in
    let here = later-read given c.requires.part.0 c.requires.part.1 c.loop-c.c-index c.loop-c-test.true in
    let entry = rw here.1 at c.entry_of-e.ensures in
    let child = part-child given.long c.requires.part.0 _ (omega arith) here.0 in
    rw (← add_assoc (c.args.start + 1) c.loop-c.c-index 1)
    (neighbouring-step c.loop-c.invariant given.opened (omega arith) entry
    (entry-keyed (legal c.args.arena.now given.opened) child entry (not-false _ (sym c.is_copy-in-loop-c.ensures ∙ c.if-is_copy-2.false)))
    c.is_before.ensures c.if-not-is_before.false)

pub returns : goal.returns
returns c =
    let part = c.requires.part in
    let long = part-length c.args.sorted.now (c.args.start + 1) c.args.end (omega arith) (omega (arith, c.requires.given.0.long, part.0.high)) in
    λ e. neighbouring-ends c.loop-c.invariant c.requires.given.0.opened c.requires.given.0.long part.0.low part.0.high
    (omega (arith, long, c.loop-c-test.false))
