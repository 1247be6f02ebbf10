-- `link_list` meets its contract. The invariant of its loop: the children from `at` on are linked,
-- and `head` is the first of them. Assumes nothing.
use Prim.Native.Nat.{◌≤◌}
use Rattle.child_lists.proofs.LinkLaws.{Linking}
use Rattle.child_lists.proofs.links.link_list.Given as goal

abbrev pub invariant-loop-at : goal.invariant-loop-at
invariant-loop-at l = (l.start ≤ l.at) × Linking l.sorted l.initial.next l.end l.at l.head l.next
