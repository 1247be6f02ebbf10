-- `without_selections` meets its contract. The loop's invariant: what is left of the first `k`
-- bytes is what is left of the first `end`.
-- The measure is `k`. Assumes nothing.
use mathlib.Core.Path.{◌≡◌}
use mathlib.Core.Bool.{false}
use Prim.Native.Nat.{◌≤◌}
use Rattle.model.specs.Path.{without_selections}
use Rattle.path.proofs.back.without_selections.Given as goal

abbrev pub invariant-loop-k : goal.invariant-loop-k
invariant-loop-k l = (without_selections false l.path l.k ≡ without_selections false l.path l.end) × (l.k ≤ l.end)

abbrev pub decreases-loop-k : goal.decreases-loop-k
decreases-loop-k l = l.k
