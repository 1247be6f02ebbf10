-- `mark_all` meets its contract. The invariant of its loop: the bytes below `n` are marked. Assumes
-- nothing.
use Rattle.model.specs.Arena.{decode}
use Rattle.erasing.specs.MarkedSet.{MarkedBelow}
use Rattle.erasing.proofs.sets.mark_all.Given as goal

abbrev pub invariant-loop-n : goal.invariant-loop-n
invariant-loop-n l = MarkedBelow (decode l.arena) l.n l.set
