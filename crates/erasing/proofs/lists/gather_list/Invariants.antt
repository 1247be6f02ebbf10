-- `gather_list` meets its contract. The invariant of its loop: the children from `child` on are
-- left, and what is kept of the others stands from `start` to `end`. The measure is how many are
-- left. Assumes nothing.
use Rattle.erasing.proofs.KeptChildren.{left, Walking}
use Rattle.erasing.proofs.lists.gather_list.Given as goal

abbrev pub invariant-loop-child : goal.invariant-loop-child
invariant-loop-child l = Walking l.arena l.set l.parent l.start l.initial.lists l.child l.end l.lists

abbrev pub decreases-loop-child : goal.decreases-loop-child
decreases-loop-child l = left l.arena l.child
