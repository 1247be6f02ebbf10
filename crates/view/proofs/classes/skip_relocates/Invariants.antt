-- `skip_relocates` meets its contract. The loop's invariant: the walk from `node` on comes to where
-- that from n comes. The measure is `node`. Assumes nothing.
use Rattle.view.proofs.WalkLoops.{Skipping}
use Rattle.view.proofs.classes.skip_relocates.Given as goal

abbrev pub invariant-loop-node : goal.invariant-loop-node
invariant-loop-node l = Skipping l.arena l.n l.node

abbrev pub decreases-loop-node : goal.decreases-loop-node
decreases-loop-node l = l.node
