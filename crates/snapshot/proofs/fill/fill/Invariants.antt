-- `fill` meets its contract. The loop's invariant is `Filled`: the arena is the encoding of the
-- graph of the first n records. Assumes nothing.
use Rattle.snapshot.proofs.SnapshotFill.{Filled}
use Rattle.snapshot.proofs.fill.fill.Given as goal

abbrev pub invariant-loop-n : goal.invariant-loop-n
invariant-loop-n l = Filled l.initial.arena l.bytes l.arena l.at l.n
