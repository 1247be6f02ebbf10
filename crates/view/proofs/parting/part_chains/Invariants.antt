-- `part_chains` meets its contract. The loop's invariant: two walks, from a to `x` and from b to
-- `y`, on their way to where the chains meet. The measure is the sum of the two. Assumes nothing.
use Prim.Native.Nat.{◌+◌}
use Rattle.view.proofs.PartingLaws.{Meeting}
use Rattle.view.proofs.parting.part_chains.Given as goal

abbrev pub invariant-loop-x : goal.invariant-loop-x
invariant-loop-x l = Meeting l.arena l.a l.b l.x l.y l.left l.right

abbrev pub decreases-loop-x : goal.decreases-loop-x
decreases-loop-x l = l.x + l.y
