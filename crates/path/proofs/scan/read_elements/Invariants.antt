-- `read_elements` meets its contract. The loop's invariant is `ReadTo`: the reading from here comes
-- to what it came to at the start. The measure is what is left of the length. Assumes nothing.
use Rattle.path.proofs.ReadingLaws.{ReadTo}
use Prim.Native.Nat.{◌-◌}
use lib.ListN.{length}
use Rattle.path.proofs.scan.read_elements.Given as goal

abbrev pub invariant-loop-at : goal.invariant-loop-at
invariant-loop-at l = ReadTo l.path l.from l.at l.names l.selected

abbrev pub decreases-loop-at : goal.decreases-loop-at
decreases-loop-at l = length l.path - l.at
