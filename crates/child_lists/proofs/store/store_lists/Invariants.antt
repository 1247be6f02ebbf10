-- `store_lists` meets its contract. The invariant of its loop: the lists of the nodes
-- before `parent` are stored, and `start` is where the next part begins. Assumes nothing.
use Rattle.child_lists.proofs.StoringLaws.{StoringLists}
use Rattle.child_lists.proofs.store.store_lists.Given as goal

abbrev pub invariant-loop-parent : goal.invariant-loop-parent
invariant-loop-parent l = StoringLists l.sorted l.ends l.initial.arena l.parent l.start l.arena
