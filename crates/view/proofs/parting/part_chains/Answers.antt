-- `part_chains` meets its contract. The loop's invariant: two walks, from a to `x` and from b to
-- `y`, on their way to where the chains meet. The measure is the sum of the two. Assumes nothing.
use native.Mathlib.Omega.{arith}
use Rattle.view.proofs.PartingLaws.{part_same, meet-start, left-readable, right-readable, left-falls, right-falls, meet_left, meet_right, meet-above, meet_below, meet-apart}
use Rattle.view.proofs.parting.part_chains.Goals as goal

pub returns-then-a-b : goal.returns-then-a-b
returns-then-a-b c =
    part_same _ _ _ c.if-a-b.true

pub loop-x-init : goal.loop-x-init
loop-x-init c =
    meet-start _ _ _ c.requires.0 c.requires.1 c.if-a-b.false

pub parent-y-requires : goal.parent-y-requires
parent-y-requires c =
    right-readable c.loop-x.invariant

pub loop-x-smaller-then-x-y : goal.loop-x-smaller-then-x-y
loop-x-smaller-then-x-y c =
    omega (arith, right-falls c.loop-x.invariant c.if-x-y.true c.parent-y.ensures)

pub loop-x-preserved-then-x-y : goal.loop-x-preserved-then-x-y
loop-x-preserved-then-x-y c =
    meet_right c.loop-x.invariant c.if-x-y.true c.parent-y.ensures

pub parent-x-requires : goal.parent-x-requires
parent-x-requires c =
    left-readable c.loop-x.invariant

pub loop-x-smaller : goal.loop-x-smaller
loop-x-smaller c =
    let walks = c.loop-x.invariant in
    omega (arith, left-falls walks c.if-x-y.false c.loop-x-test.true c.parent-x.ensures)

pub loop-x-preserved : goal.loop-x-preserved
loop-x-preserved c =
    meet_left c.loop-x.invariant c.if-x-y.false c.loop-x-test.true c.parent-x.ensures

pub returns-then-x-a : goal.returns-then-x-a
returns-then-x-a c =
    meet-above c.loop-x.invariant c.loop-x-test.false c.if-x-a.true

pub returns-then-x-b : goal.returns-then-x-b
returns-then-x-b c =
    meet_below c.loop-x.invariant c.loop-x-test.false c.if-x-a.false c.if-x-b.true

pub returns : goal.returns
returns c =
    meet-apart c.loop-x.invariant c.loop-x-test.false c.if-x-a.false c.if-x-b.false
