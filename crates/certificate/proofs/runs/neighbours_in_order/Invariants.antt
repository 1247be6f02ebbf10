-- `neighbours_in_order` meets its contract. The loop's invariant: so far no child is a copy, and
-- each is before the next. Assumes nothing.
use Prim.Native.Nat.{◌+◌}
use Rattle.certificate.proofs.CertificateParts.{Neighbouring}
use Rattle.certificate.proofs.runs.neighbours_in_order.Given as goal

abbrev pub invariant-loop-c : goal.invariant-loop-c
invariant-loop-c l = Neighbouring l.arena l.places l.sorted l.parent l.start l.last (l.start + 1 + l.c-index)
