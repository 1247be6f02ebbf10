-- `name_start` meets its contract. The loop's invariant: the first `k` bytes have the last name's
-- start that the first `end` have. Assumes nothing.
use mathlib.Core.Path.{◌≡◌}
use Rattle.model.specs.Path.{name_start}
use Rattle.path.proofs.back.name_start.Given as goal

abbrev pub invariant-loop-k : goal.invariant-loop-k
invariant-loop-k l = name_start l.path l.k ≡ name_start l.path l.end
