-- `move_records` meets its contract. The invariant of its loop: the kept of the nodes below `from`
-- have moved (`Moving`). Assumes nothing.
use mathlib.Core.Path.{◌≡◌}
use lib.ListN.{length}
use Rattle.erasing.proofs.MoveLaws.{Moving}
use Rattle.erasing.proofs.records.move_records.Given as goal

abbrev pub invariant-loop-from : goal.invariant-loop-from
invariant-loop-from l = Moving l.initial.arena l.set l.arena l.from × (length l.path ≡ 255)
