-- `run_end` meets its contract. The loop's invariant: every byte from `at` up to `i` is of the
-- run. Assumes nothing.
use Rattle.path.specs.PathReading.{in_run, Passed}
use Rattle.path.proofs.scan.run_end.Given as goal

abbrev pub invariant-loop-i : goal.invariant-loop-i
invariant-loop-i l = Passed (in_run l.selection) l.path l.at l.i
