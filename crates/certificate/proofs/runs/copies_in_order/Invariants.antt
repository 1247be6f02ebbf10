-- `copies_in_order` meets its contract. The loop's invariant: so far all are HAS_SPECIALIZES, of one
-- R where depths differ, each follows the one before it, and the authored ones rise. Assumes
-- nothing.
use Prim.Native.Nat.{◌+◌}
use Rattle.certificate.proofs.CopyParts.{Copying}
use Rattle.certificate.proofs.runs.copies_in_order.Given as goal

abbrev pub invariant-loop-c : goal.invariant-loop-c
invariant-loop-c l = Copying l.arena l.places l.sorted l.start l.uneven l.last l.sibling l.node (l.start + 1 + l.c-index)
