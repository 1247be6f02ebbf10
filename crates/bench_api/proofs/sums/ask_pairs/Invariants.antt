-- None of the first `i` pairs is refused.
use mathlib.Core.Path.{◌≡◌}
use Rattle.bench_api.specs.Pairs.{pair_refused, pairs_refused}
use Rattle.bench_api.proofs.sums.ask_pairs.Given as goal

abbrev pub invariant-loop-i : goal.invariant-loop-i
invariant-loop-i l = pairs_refused (pair_refused l.siblings l.arena) l.pairs l.i ≡ 0
