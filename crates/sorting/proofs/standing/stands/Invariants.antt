-- `standing::stands` meets its contract. The invariant of its loop: each node below x that has a
-- next sibling precedes it. Assumes nothing.
use Rattle.sorting.proofs.StandingLaws.{ValidNodeAndRoot}
use Rattle.sorting.proofs.standing.stands.Given as goal

abbrev pub invariant-loop-x : goal.invariant-loop-x
invariant-loop-x l = ValidNodeAndRoot l.arena l.x
