-- `write_all_flags` meets its contract. The invariant of its loop: the flags of the first n nodes
-- are stored. Assumes nothing.
use mathlib.Core.Path.{◌≡◌}
use Rattle.culling.specs.Culled.{flags_written}
use Rattle.culling.proofs.flags.write_all_flags.Given as goal

abbrev pub invariant-loop-n : goal.invariant-loop-n
invariant-loop-n l = l.arena ≡ flags_written l.flags l.n l.initial.arena
