-- `paths_fit` meets its contract. The invariant of its loop: with the sum so far, the paths from
-- node n on decide question 7. Assumes nothing.
use mathlib.Core.Path.{◌≡◌}
use Prim.Native.Nat.{◌*◌, ◌≤◌}
use Rattle.model.specs.Arena.{decode}
use Rattle.model.specs.Calls.{paths_fit}
use Rattle.model.specs.Deepening.{deepen}
use Rattle.deepening.proofs.DeepenedFits.{fit_from}
use Rattle.deepening.proofs.appending.paths_fit.Given as goal

abbrev pub invariant-loop-n : goal.invariant-loop-n
invariant-loop-n l = record {
  small : l.sum ≤ l.n * 255;
  decides : fit_from l.arena l.name l.sum l.n ≡ paths_fit (deepen l.name (decode l.arena));
}
