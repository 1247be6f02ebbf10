-- `is_ancestor_of` meets its contract. The loop's invariant: x is met from `node` on where it is
-- met from y on. The measure is `node`. Assumes nothing.
use Rattle.view.proofs.AncestorLaws.{ancestry-start, ancestry-zero, ancestry-root, ancestry-met, ancestry-falls, ancestry-step}
use Rattle.view.proofs.parting.is_ancestor_of.Goals as goal

pub loop-node-init : goal.loop-node-init
loop-node-init c =
    ancestry-start _ _ _ _ c.requires.1

pub returns-then-node-root : goal.returns-then-node-root
returns-then-node-root c =
    ancestry-root c.loop-node.invariant c.loop-node-test.true c.if-node-root.true

pub returns-then-node-x : goal.returns-then-node-x
returns-then-node-x c =
    ancestry-met c.loop-node.invariant c.loop-node-test.true c.if-node-root.false c.if-node-x.true

pub parent-node-requires : goal.parent-node-requires
parent-node-requires c =
    c.loop-node.invariant.standing.readable

pub loop-node-smaller : goal.loop-node-smaller
loop-node-smaller c =
    ancestry-falls c.loop-node.invariant c.loop-node-test.true
    c.if-node-root.false c.parent-node.ensures

pub loop-node-preserved : goal.loop-node-preserved
loop-node-preserved c =
    ancestry-step c.loop-node.invariant c.loop-node-test.true
    c.if-node-root.false c.parent-node.ensures c.if-node-x.false

pub returns : goal.returns
returns c =
    ancestry-zero c.loop-node.invariant c.loop-node-test.false
