-- `are_valid` meets its contract. The loop's invariant: the lists of the nodes below `n` are
-- right, and `left` nodes more would make all but node 0. Assumes nothing.
use Rattle.child_lists.proofs.CountLaws.{Walking}
use Rattle.child_lists.proofs.check.are_valid.Given as goal

abbrev pub invariant-loop-n : goal.invariant-loop-n
invariant-loop-n l = Walking l.arena l.n l.left
