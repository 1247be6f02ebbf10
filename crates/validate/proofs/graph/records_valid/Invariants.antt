-- `records_valid` meets its contract. The loop's invariant is `RecordsTo`: the records below n are
-- right, and come to so many bytes of paths and this local root. Assumes nothing.
use Rattle.validate.proofs.RecordsLaws.{RecordsTo}
use Rattle.validate.proofs.graph.records_valid.Given as goal

abbrev pub invariant-loop-n : goal.invariant-loop-n
invariant-loop-n l = RecordsTo l.arena l.n l.path_bytes l.root
