-- `write_records` meets its contract. The loop's invariant is `Copied`: the first n records stand
-- behind the front, and end at `at`. Assumes nothing.
use Rattle.snapshot.proofs.WriterLaws.{Copied}
use Rattle.snapshot.proofs.writer.write_records.Given as goal

abbrev pub invariant-loop-n : goal.invariant-loop-n
invariant-loop-n l = Copied l.arena l.initial.out l.out l.at l.n
