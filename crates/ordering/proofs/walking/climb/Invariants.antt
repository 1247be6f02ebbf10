-- `walking::climb` meets its contract. The invariant of its loop: climbing from the node leads
-- where climbing from the start does. The measure is the node, since a parent is lower. Assumes
-- nothing.
use mathlib.Core.Path.{◌≡◌}
use Prim.Native.Nat.{◌+◌, ◌≤◌}
use Rattle.model.specs.Arena.{next_sibling_in}
use Rattle.arena.specs.Slot.{parent_in}
use Rattle.ordering.specs.Ordering.{onward}
use Rattle.ordering.proofs.walking.climb.Given as goal

abbrev pub invariant-loop-node : goal.invariant-loop-node
invariant-loop-node l = (l.node ≤ l.from) × (onward (next_sibling_in l.arena) (parent_in l.arena) (l.node + 1) l.node ≡ onward (next_sibling_in l.arena) (parent_in l.arena) (l.from + 1) l.from)

abbrev pub decreases-loop-node : goal.decreases-loop-node
decreases-loop-node l = l.node
