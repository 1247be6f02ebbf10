-- `origin_root_node` meets its contract. The loop's invariant: where the origins from `node` on
-- begin is where those from n on do, `hops` steps fewer away. The measure is `node`. Assumes
-- nothing.
use native.Mathlib.Omega.{arith}
use Rattle.view.proofs.WalkLoops.{originating-start, originating-zero, originating-stop, originating-falls, originating-step}
use Rattle.view.proofs.origins.origin_root_node.Goals as goal

pub loop-node-init : goal.loop-node-init
loop-node-init c =
    originating-start _ _ c.requires

pub origin-origin-requires : goal.origin-origin-requires
origin-origin-requires c =
    c.loop-node.invariant.readable

pub parent-requires : goal.parent-requires
parent-requires c =
    c.loop-node.invariant.readable

pub returns-then-origin-parent : goal.returns-then-origin-parent
returns-then-origin-parent c =
    originating-stop c.loop-node.invariant c.origin-origin.ensures c.parent.ensures c.if-origin-parent.true

pub overflow_add-hops : goal.overflow_add-hops
overflow_add-hops c =
    omega (arith, c.loop-node.invariant.within, c.loop-node-test.true)

pub loop-node-smaller : goal.loop-node-smaller
loop-node-smaller c =
    originating-falls c.loop-node.invariant c.origin-origin.ensures c.parent.ensures
    c.loop-node-test.true

pub loop-node-preserved : goal.loop-node-preserved
loop-node-preserved c =
    originating-step c.loop-node.invariant c.origin-origin.ensures c.parent.ensures
    c.loop-node-test.true c.if-origin-parent.false

pub returns : goal.returns
returns c =
    originating-zero c.loop-node.invariant c.loop-node-test.false
