-- `certify` meets its contract. The loop's invariant: the lists of the nodes below `parent` fit and
-- are in order, and stand up to `start`. Assumes nothing.
use native.Mathlib.Omega.{arith}
use mathlib.Core.Path.{◌∙◌}
use Prim.Native.Nat.{◌+◌}
use borrow.Author.Tests.{eqb-true}
use Rattle.laws.proofs.StoredLaws.{bytes-by-place}
use Rattle.certificate.proofs.CertificateChildren.{tree-read}
use Rattle.certificate.proofs.CertificateLaws.{certifying-ends}
use Rattle.certificate.proofs.certify.Goals as goal

pub returns : goal.returns
returns c =
    let bytes = c.args.arena.now in
    let opened = c.requires.given.0.opened in
    let are-bytes = c.type_inv.arena in
    λ e.
    certifying-ends opened (tree-read bytes (bytes-by-place bytes (λ k. (are-bytes k).fits)) opened) c.requires.given.0.long c.loop-parent.invariant
    (omega (arith, c.requires.given.1)) (eqb-true (c.loop-parent.start + 1) c.args.count e ∙ c.requires.given.1) c.requires.given.2
