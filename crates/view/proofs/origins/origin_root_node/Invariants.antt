-- `origin_root_node` meets its contract. The loop's invariant: where the origins from `node` on
-- begin is where those from n on do, `hops` steps fewer away. The measure is `node`. Assumes
-- nothing.
use Rattle.view.proofs.WalkLoops.{Originating}
use Rattle.view.proofs.origins.origin_root_node.Given as goal

abbrev pub invariant-loop-node : goal.invariant-loop-node
invariant-loop-node l = Originating l.arena l.n l.node l.hops

abbrev pub decreases-loop-node : goal.decreases-loop-node
decreases-loop-node l = l.node
