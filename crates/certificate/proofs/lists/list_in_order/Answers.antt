-- `list_in_order` meets its contract. The loop's invariant: the runs up to `at` are in order, and
-- their ranks below `least`. The measure is how many children are left. Assumes nothing.
use native.Mathlib.Omega.{arith}
use Rattle.certificate.proofs.CertificateParts.{part-child, entry-readable, entry-rank, rank-low, ranking-part, ranking-step, ranking-ends}
use Rattle.certificate.proofs.lists.list_in_order.Goals as goal

pub entry_of-first-requires : goal.entry_of-first-requires
entry_of-first-requires c =
    entry-readable c.requires.given.0 c.requires.part.0 c.loop-at.at c.loop-at.invariant.low c.loop-at-test.true

pub run_end-next-requires-clause-part : goal.run_end-next-requires-clause-part
run_end-next-requires-clause-part c =
    let w = c.loop-at.invariant in
    (ranking-part w c.requires.given.0.long c.requires.part.0 w.high (omega arith), c.loop-at-test.true)

pub run_in_order-requires-clause-part : goal.run_in_order-requires-clause-part
run_in_order-requires-clause-part c =
    let run = c.run_end-next.ensures in
    (ranking-part c.loop-at.invariant c.requires.given.0.long c.requires.part.0 (omega (arith, run.longer)) run.within, run.longer)

pub overflow_add-least : goal.overflow_add-least
overflow_add-least c =
    let first = part-child c.requires.given.0.long c.requires.part.0 c.loop-at.at c.loop-at.invariant.low c.loop-at-test.true in
    omega (arith, entry-rank c.entry_of-first.ensures, rank-low c.requires.given.0.opened _ first.1)

pub loop-at-preserved : goal.loop-at-preserved
loop-at-preserved c =
    ranking-step c.loop-at.invariant c.requires.given.0.long c.requires.part.0.high (entry-rank c.entry_of-first.ensures) c.if-rank-least.false
    c.run_end-next.ensures (c.run_in_order.ensures c.if-not-run_in_order.false)

pub returns : goal.returns
returns c =
    λ e. ranking-ends c.loop-at.invariant c.requires.given.0.long c.requires.part.0.high c.loop-at-test.false
