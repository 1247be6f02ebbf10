-- `store_nexts` meets its contract. The invariant of its loop: the siblings after the
-- children from `at` on are stored, and `head` is the first of these. Assumes nothing.
use Prim.Native.Nat.{◌≤◌}
use Rattle.child_lists.proofs.StoringLaws.{StoringNexts}
use Rattle.child_lists.proofs.store.store_nexts.Given as goal

abbrev pub invariant-loop-at : goal.invariant-loop-at
invariant-loop-at l = (l.start ≤ l.at) × StoringNexts l.sorted l.initial.arena l.end l.at l.head l.arena
