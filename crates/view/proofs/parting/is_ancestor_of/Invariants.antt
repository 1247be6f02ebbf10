-- `is_ancestor_of` meets its contract. The loop's invariant: x is met from `node` on where it is
-- met from y on. The measure is `node`. Assumes nothing.
use Rattle.view.proofs.AncestorLaws.{Ancestry}
use Rattle.view.proofs.parting.is_ancestor_of.Given as goal

abbrev pub invariant-loop-node : goal.invariant-loop-node
invariant-loop-node l = Ancestry l.arena l.root l.x l.y l.node

abbrev pub decreases-loop-node : goal.decreases-loop-node
decreases-loop-node l = l.node
