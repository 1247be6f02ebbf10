-- `pairs_in_order` meets its contract. The outer loop's invariant: nothing is found, and each child
-- before `i` is before all later ones; the inner one's: nothing is found, and the child at `i` is
-- before those so far. Assumes nothing.
use mathlib.Core.Path.{◌≡◌}
use mathlib.Core.Bool.{true}
use Prim.Native.Nat.{◌+◌}
use lib.ListN.{get_or}
use Rattle.view.specs.View.{view_in}
use Rattle.certificate.proofs.CertificateParts.{Before}
use Rattle.certificate.proofs.SliceLaws.{Each, EachLater}
use Rattle.certificate.proofs.runs.pairs_in_order.Given as goal

abbrev pub invariant-loop-c : goal.invariant-loop-c
invariant-loop-c l = record {
  none : l.found ≡ true;
  each : Each (Before (view_in l.arena) l.places (get_or l.sorted l.i 0)) l.sorted (l.i + 1) (l.i + 1 + l.c-index);
}

abbrev pub invariant-pairs : goal.invariant-pairs
invariant-pairs l = record {
  none : l.found ≡ true;
  later : EachLater (Before (view_in l.arena) l.places) l.sorted l.start l.i l.end;
}
