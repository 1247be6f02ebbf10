-- `intro_length` meets its contract. The loop's invariant: the steps left from `end` on lead where
-- all of them lead from the whole path. Assumes nothing.
use mathlib.Core.Path.{◌≡◌}
use Prim.Native.Nat.{◌≤◌}
use lib.ListN.{length}
use Rattle.model.specs.Path.{intro_length}
use Rattle.path.proofs.back.intro_length.Given as goal

abbrev pub invariant-loop-left : goal.invariant-loop-left
invariant-loop-left l = (intro_length l.left l.path l.end ≡ intro_length l.depth l.path (length l.path)) × (l.end ≤ length l.path)
