-- `unmark_reachable` meets its contract. The invariant of its loop: the nodes from `n` on have
-- spared their links. Assumes nothing.
use Rattle.model.specs.Arena.{decode}
use Rattle.erasing.proofs.SpareLaws.{Sparing}
use Rattle.erasing.proofs.sets.unmark_reachable.Given as goal

abbrev pub invariant-loop-n : goal.invariant-loop-n
invariant-loop-n l = Sparing (decode l.arena).nodes l.n l.set
