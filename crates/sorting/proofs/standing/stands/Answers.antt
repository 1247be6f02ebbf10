-- `standing::stands` meets its contract. The invariant of its loop: each node below x that has a
-- next sibling precedes it. Assumes nothing.
use native.Mathlib.Omega.{arith}
use Rattle.laws.proofs.StoredLaws.{bytes-by-place}
use Rattle.sorting.proofs.StandingLaws.{standing-step, standing-ends}
use Rattle.sorting.proofs.standing.stands.Goals as goal

pub loop-x-preserved : goal.loop-x-preserved
loop-x-preserved c =
    standing-step _ c.loop-x.x c.loop-x.invariant (c.precedes_next.ensures c.if-not-precedes_next.false)

pub returns : goal.returns
returns c =
    standing-ends c.args.arena.now (bytes-by-place c.args.arena.now (λ k. (c.type_inv.arena k).fits)) c.requires.0
    (λ x h. c.loop-x.invariant x (omega (arith, c.loop-x-test.false, c.requires.1)))
