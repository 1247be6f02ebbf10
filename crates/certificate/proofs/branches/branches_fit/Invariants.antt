-- `branches_fit` meets its contract. The loop's invariant: the children so far are the node's, and
-- the list fits where the rest of it does after `from`. Assumes nothing.
use Prim.Native.Nat.{◌+◌}
use Rattle.certificate.proofs.CertificateLaws.{Fitting}
use Rattle.certificate.proofs.branches.branches_fit.Given as goal

abbrev pub invariant-loop-c : goal.invariant-loop-c
invariant-loop-c l = Fitting l.arena l.sorted l.places l.stops l.parent l.start l.end l.from (l.start + l.c-index)
