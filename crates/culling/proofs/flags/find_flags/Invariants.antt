-- `find_flags` meets its contract. The invariant of its loop: the nodes from n on are decided.
-- Assumes nothing.
use Rattle.culling.proofs.DecidingLaws.{Deciding}
use Rattle.culling.proofs.flags.find_flags.Given as goal

abbrev pub invariant-loop-n : goal.invariant-loop-n
invariant-loop-n l = Deciding l.arena l.unculled l.flags l.n
