-- The place lies within the line.
use Rattle.std.proofs.Common.{◌≤◌, length}
use Rattle.calls_text.proofs.words.start.Given as goal

abbrev pub invariant-loop : goal.invariant-loop
invariant-loop l = l.at ≤ length l.line
