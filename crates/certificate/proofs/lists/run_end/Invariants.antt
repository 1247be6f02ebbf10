-- `run_end` meets its contract. The loop's invariant: the children before `i` have the first one's
-- rank. Assumes nothing.
use Rattle.certificate.specs.Certificate.{OneRank}
use Rattle.certificate.proofs.lists.run_end.Given as goal

abbrev pub invariant-loop-i : goal.invariant-loop-i
invariant-loop-i l = OneRank l.arena l.sorted l.start l.i
