-- `first_copy` meets its contract. The loop's invariant: the first copy from `child` on, of the
-- nodes that are left, is the first of the whole list. Assumes nothing.
use mathlib.Core.Path.{◌≡◌}
use Prim.Native.Nat.{◌-◌}
use Rattle.model.specs.Hierarchy.{first_in, is_copy}
use Rattle.model.specs.Arena.{children_in}
use Rattle.view.specs.View.{view_in}
use Rattle.strength.proofs.CopyLaws.{copy_from}
use Rattle.strength.proofs.propagated.first_copy.Given as goal

abbrev pub invariant-loop-passed : goal.invariant-loop-passed
invariant-loop-passed l = copy_from l.arena l.n (l.count - l._passed) l.child ≡ first_in (is_copy (view_in l.arena) l.n) (children_in l.arena l.root)
