-- `is_nested_under` meets its contract. The loop's invariant: y is met from `n` on where it is met
-- from x on. The measure is `n`. Assumes nothing.
use Rattle.view.proofs.WalkLoops.{nesting-start, nesting-met, nesting-zero, nesting-falls, nesting-step}
use Rattle.view.proofs.origins.is_nested_under.Goals as goal

pub loop-n-init : goal.loop-n-init
loop-n-init c =
    nesting-start _ _ _ _ c.requires

pub returns-then-n-eq0 : goal.returns-then-n-eq0
returns-then-n-eq0 c =
    nesting-zero c.loop-n.invariant c.loop-n-test.true c.if-n-eq0.true

pub outward-n-requires : goal.outward-n-requires
outward-n-requires c =
    c.loop-n.invariant.standing

pub loop-n-smaller : goal.loop-n-smaller
loop-n-smaller c =
    nesting-falls c.loop-n.invariant c.outward-n.ensures c.if-n-eq0.false

pub loop-n-preserved : goal.loop-n-preserved
loop-n-preserved c =
    nesting-step c.loop-n.invariant c.outward-n.ensures c.if-n-eq0.false
    c.loop-n-test.true

pub returns : goal.returns
returns c =
    nesting-met c.loop-n.invariant c.loop-n-test.false
