-- `read_behind_slash` meets its contract. The loop's invariant is `Reached`: the reading from here
-- comes to what it came to behind the first slash. The measure is what is left of the length.
-- Assumes nothing.
use Prim.Native.Nat.{◌-◌}
use lib.ListN.{length}
use Rattle.path.specs.Tables.{Reached}
use Rattle.path.proofs.tables.read_behind_slash.Given as goal

abbrev pub invariant-loop-i : goal.invariant-loop-i
invariant-loop-i l = Reached l.path l.i l.state l.names

abbrev pub decreases-loop-i : goal.decreases-loop-i
decreases-loop-i l = length l.path - l.i
