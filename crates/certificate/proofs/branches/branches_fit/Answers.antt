-- `branches_fit` meets its contract. The loop's invariant: the children so far are the node's, and
-- the list fits where the rest of it does after `from`. Assumes nothing.
use native.Mathlib.Nat.{add_assoc}
use native.Mathlib.Omega.{arith}
use borrow.Author.Tests.{leb-true}
use Rattle.certificate.proofs.SliceLaws.{part-length, part-read}
use Rattle.certificate.proofs.CertificateLaws.{fitting-step, fitting-ends}
use Rattle.certificate.proofs.branches.branches_fit.Goals as goal

pub loop-c-preserved : goal.loop-c-preserved
loop-c-preserved c =
    let here =
    part-read c.args.sorted.now c.args.start c.args.end c.requires.sorted_len.2 (omega (arith, c.requires.sorted_len)) c.loop-c.c-index
    c.loop-c-test.true in
    rw (c.from-from-in-loop-c.ensures, here.1, ← add_assoc c.args.start c.loop-c.c-index 1)
    (fitting-step c.loop-c.invariant c.requires.sorted_len.0 c.requires.sorted_len.3 here.0
    (rw here.1 at (c.is_child.ensures c.if-not-is_child.false)) (rw here.1 at (rw c.from.ensures at c.if-from.false)))

pub returns : goal.returns
returns c =
    let long = part-length c.args.sorted.now c.args.start c.args.end c.requires.sorted_len.2 (omega (arith, c.requires.sorted_len)) in
    λ e. fitting-ends c.loop-c.invariant c.requires.sorted_len.0 c.requires.sorted_len.3 c.requires.sorted_len.2
    (omega (arith, long, c.requires.sorted_len.2, c.loop-c-test.false)) (omega (arith, leb-true c.loop-c.from c.from-2.result e, c.from-2.ensures))
