-- `list_in_order` meets its contract. The loop's invariant: the runs up to `at` are in order, and
-- their ranks below `least`. The measure is how many children are left. Assumes nothing.
use Prim.Native.Nat.{◌-◌}
use Rattle.certificate.proofs.CertificateParts.{Ranking}
use Rattle.certificate.proofs.lists.list_in_order.Given as goal

abbrev pub invariant-loop-at : goal.invariant-loop-at
invariant-loop-at l = Ranking l.arena l.places l.sorted l.start l.end l.least l.at

abbrev pub decreases-loop-at : goal.decreases-loop-at
decreases-loop-at l = l.end - l.at
