-- `left_after` meets its contract. The loop's invariant: the walk from here on answers what the
-- whole walk does. The measure is what is left of the budget. Assumes nothing.
use mathlib.Core.Path.{◌≡◌}
use Rattle.child_lists.specs.ChildLists.{walked, left_after}
use Rattle.child_lists.proofs.check.left_after.Given as goal

abbrev pub invariant-loop-at : goal.invariant-loop-at
invariant-loop-at l = walked l.arena l.parent l.left l.at l.last ≡ left_after l.arena l.parent l.budget

abbrev pub decreases-loop-at : goal.decreases-loop-at
decreases-loop-at l = l.left
