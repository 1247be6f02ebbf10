-- `has_two_depths` meets its contract. The loop's invariant: the children so far have the first
-- one's depth. Assumes nothing.
use Prim.Native.Nat.{◌+◌}
use Rattle.certificate.specs.Certificate.{OneDepth}
use Rattle.certificate.proofs.runs.has_two_depths.Given as goal

abbrev pub invariant-loop-c : goal.invariant-loop-c
invariant-loop-c l = OneDepth l.arena l.sorted l.start (l.start + l.c-index)
