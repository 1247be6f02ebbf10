-- `selection_start` meets its contract. The loop's invariant: the last `{` of the first `k` bytes
-- is that of the first `end`. Assumes nothing.
use mathlib.Core.Path.{◌≡◌}
use Rattle.model.specs.Path.{open_brace, after_last}
use Rattle.path.proofs.back.selection_start.Given as goal

abbrev pub invariant-loop-k : goal.invariant-loop-k
invariant-loop-k l = after_last open_brace l.path l.k ≡ after_last open_brace l.path l.end
