-- `starting_node_of_class_hierarchy` meets its contract. The loop's invariant: the walk from
-- `instance` on comes to where that from n comes, and the last node that it leaves, or else
-- `class_node`, is the one that that leaves. The measure is `instance`. Assumes nothing.
use Rattle.view.proofs.ClassLaws.{Rising}
use Rattle.view.proofs.classes.starting_node_of_class_hierarchy.Given as goal

abbrev pub invariant-loop-instance : goal.invariant-loop-instance
invariant-loop-instance l = Rising l.arena l.root l.n l.depth l.instance l.class_node

abbrev pub decreases-loop-instance : goal.decreases-loop-instance
decreases-loop-instance l = l.instance
