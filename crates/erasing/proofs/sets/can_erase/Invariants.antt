-- `can_erase` meets its contract. The invariant of its loop: the nodes below `n` pass. Assumes
-- nothing.
use Rattle.model.specs.Arena.{decode}
use Rattle.erasing.proofs.AcceptLaws.{Accepting}
use Rattle.erasing.proofs.sets.can_erase.Given as goal

abbrev pub invariant-loop-n : goal.invariant-loop-n
invariant-loop-n l = Accepting (decode l.arena) l.set l.n
