-- `skip_relocates` meets its contract. The loop's invariant: the walk from `node` on comes to where
-- that from n comes. The measure is `node`. Assumes nothing.
use Rattle.view.proofs.WalkLoops.{skipping-start, skipping-zero, skipping-stop, skipping-falls, skipping_step}
use Rattle.view.proofs.classes.skip_relocates.Goals as goal

pub loop-node-init : goal.loop-node-init
loop-node-init c =
    skipping-start _ _ c.requires

pub arc-requires : goal.arc-requires
arc-requires c =
    c.loop-node.invariant.readable

pub returns-then-arc-ne-RELOCATE : goal.returns-then-arc-ne-RELOCATE
returns-then-arc-ne-RELOCATE c =
    skipping-stop c.loop-node.invariant c.arc.ensures c.if-arc-ne-RELOCATE.true

pub parent-node-requires : goal.parent-node-requires
parent-node-requires c =
    c.loop-node.invariant.readable

pub loop-node-smaller : goal.loop-node-smaller
loop-node-smaller c =
    skipping-falls c.loop-node.invariant c.parent-node.ensures c.loop-node-test.true

pub loop-node-preserved : goal.loop-node-preserved
loop-node-preserved c =
    skipping_step c.loop-node.invariant c.parent-node.ensures c.loop-node-test.true
    c.arc.ensures c.if-arc-ne-RELOCATE.false

pub returns : goal.returns
returns c =
    skipping-zero c.loop-node.invariant c.loop-node-test.false
