-- `put_lines` meets its contract. The loop's invariant is `Listed`: the lines of the first i
-- entries are put, and end at `at`. Assumes nothing.
use Rattle.listing.proofs.ListingLines.{Listed}
use Rattle.listing.proofs.put_lines.Given as goal

abbrev pub invariant-loop-i : goal.invariant-loop-i
invariant-loop-i l = Listed l.arena l.initial.out l.out l.start l.at l.i
