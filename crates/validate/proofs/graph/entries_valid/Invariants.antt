-- `entries_valid` meets its contract. The loop's invariant is `EntriesTo`: the first k entries are
-- nodes, none twice, and `seen` has a 1 at each. Assumes nothing.
use Rattle.validate.proofs.EntriesLaws.{EntriesTo}
use Rattle.validate.proofs.graph.entries_valid.Given as goal

abbrev pub invariant-loop-k : goal.invariant-loop-k
invariant-loop-k l = EntriesTo l.arena l.seen l.k
