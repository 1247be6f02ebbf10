-- `check_records` meets its contract. The loop's invariant is `CheckedTo`: the records from here on
-- are refused as all of them are. Assumes nothing.
use Rattle.snapshot.proofs.CheckLaws.{CheckedTo}
use Rattle.snapshot.proofs.checks.check_records.Given as goal

abbrev pub invariant-loop-n : goal.invariant-loop-n
invariant-loop-n l = CheckedTo l.bytes l.prims l.at l.path_bytes l.has_root l.n
