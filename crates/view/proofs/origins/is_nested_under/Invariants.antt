-- `is_nested_under` meets its contract. The loop's invariant: y is met from `n` on where it is met
-- from x on. The measure is `n`. Assumes nothing.
use Rattle.view.proofs.WalkLoops.{Nesting}
use Rattle.view.proofs.origins.is_nested_under.Given as goal

abbrev pub invariant-loop-n : goal.invariant-loop-n
invariant-loop-n l = Nesting l.arena l.root l.x l.y l.n

abbrev pub decreases-loop-n : goal.decreases-loop-n
decreases-loop-n l = l.n
