-- `store_lists` meets its contract. The invariant of its loop: the lists of the nodes
-- before `parent` are stored, and `start` is where the next part begins. Assumes nothing.
use Rattle.child_lists.proofs.StoringLaws.{lists-step}
use Rattle.child_lists.proofs.store.store_lists.Goals as goal

pub loop-parent-preserved : goal.loop-parent-preserved
loop-parent-preserved c =
    lists-step _ _ _ _ _ _ c.loop-parent.invariant _ _ _ _ c.store_nexts-first.ensures.1 c.store_nexts-first.ensures.0 c.last_of-last.ensures
    c.store_ends.ensures
