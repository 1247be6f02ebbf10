-- `walking::write_walk` meets its contract. The invariant of its loop: `at - 1` steps lead to x, all
-- nodes up to it are stored, and what is kept is true. Assumes nothing.
use Prim.Native.Nat.{◌-◌}
use Rattle.ordering.specs.Ordering.{Knows}
use Rattle.ordering.proofs.WayLaws.{Walking}
use Rattle.ordering.proofs.walking.write_walk.Given as goal

abbrev pub invariant-loop-at : goal.invariant-loop-at
invariant-loop-at l = Walking l.initial.arena l.count l.arena l.x (l.at - 1) × Knows l.initial.arena l.known
