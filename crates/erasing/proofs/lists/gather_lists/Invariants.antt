-- `gather_lists` meets its contract. The invariant of its loop: the lists of the kept nodes below
-- `parent` stand up to `start`. Assumes nothing.
use Rattle.erasing.proofs.FlatLaws.{Listing}
use Rattle.erasing.proofs.lists.gather_lists.Given as goal

abbrev pub invariant-loop-parent : goal.invariant-loop-parent
invariant-loop-parent l = Listing l.arena l.set l.start l.parent l.lists l.ends
