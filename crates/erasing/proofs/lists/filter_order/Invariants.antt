-- `filter_order` meets its contract. The invariant of its loop: the entries from `n` on are left,
-- and what is kept of the others stands up to `kept`. Assumes nothing.
use Rattle.erasing.proofs.KeptOrder.{Filtering}
use Rattle.erasing.proofs.lists.filter_order.Given as goal

abbrev pub invariant-loop-n : goal.invariant-loop-n
invariant-loop-n l = Filtering l.arena l.set l.initial.order l.kept l.n l.order
