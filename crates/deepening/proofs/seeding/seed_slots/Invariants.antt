-- `seeding::seed_slots` meets its contract. The invariant of its loop: the slots of the first n
-- nodes are stored. Assumes nothing.
use mathlib.Core.Path.{◌≡◌}
use Rattle.deepening.specs.Deepened.{slots_seeded}
use Rattle.deepening.proofs.seeding.seed_slots.Given as goal

abbrev pub invariant-loop-n : goal.invariant-loop-n
invariant-loop-n l = l.into ≡ slots_seeded l.from l.name l.n l.initial.into
