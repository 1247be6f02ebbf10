-- `write_entries` meets its contract. The loop's invariant is `Listed`: the first n entries are
-- written. Assumes nothing.
use Rattle.ordering.proofs.OrderEntries.{Listed}
use Rattle.ordering.proofs.calls.write_entries.Given as goal

abbrev pub invariant-loop-n : goal.invariant-loop-n
invariant-loop-n l = Listed l.arena l.initial.out l.out l.n
