-- `sum` is the sum of the first `i` pairs, each of which adds less than 256.
use mathlib.Core.Path.{◌≡◌}
use Prim.Native.Nat.{◌*◌, ◌≤◌}
use Rattle.bench_api.specs.Pairs.{comparison, pair_sum}
use Rattle.bench_api.proofs.sums.sum_pairs.Given as goal

abbrev pub invariant-loop-i : goal.invariant-loop-i
invariant-loop-i l = record { added : l.sum ≡ pair_sum (comparison l.siblings l.arena) l.pairs l.i; small : l.sum ≤ l.i * 255 }
