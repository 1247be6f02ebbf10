-- `seeding::seed_order` meets its contract. The invariant of its loop is `Storing`. Assumes nothing.
use Rattle.model.specs.Arena.{order_entry_in}
use Rattle.arena.proofs.StoredEntries.{Storing}
use Rattle.deepening.proofs.seeding.seed_order.Given as goal

abbrev pub invariant-loop-n : goal.invariant-loop-n
invariant-loop-n l = Storing (order_entry_in l.from) l.initial.into l.count l.into l.n
