-- `certify` meets its contract. The loop's invariant: the lists of the nodes below `parent` fit and
-- are in order, and stand up to `start`. Assumes nothing.
use Rattle.certificate.proofs.CertificateLaws.{Certifying}
use Rattle.certificate.proofs.certify.Given as goal

abbrev pub invariant-loop-parent : goal.invariant-loop-parent
invariant-loop-parent l = Certifying l.arena l.sorted l.ends l.places l.stops l.start l.parent
