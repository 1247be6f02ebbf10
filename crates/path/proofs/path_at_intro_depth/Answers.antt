-- `path_at_intro_depth` meets its contract: the front part has the introduction path's length.
-- Assumes nothing.
use mathlib.Core.Path.{sym, ap}
use Prim.Native.Nat.{ℕ}
use lib.Seq.{length-take-le}
use Rattle.model.specs.Path.{path_at_intro_depth}
use lib.ListN.{take}
use Rattle.path.proofs.path_at_intro_depth.Goals as goal

pub slice_bounds-result-end : goal.slice_bounds-result-end
slice_bounds-result-end c =
    sym (length-take-le _ _ c.intro_length-end.ensures.upper_bound)

pub returns : goal.returns
unfolding path_at_intro_depth
returns c =
    ap (λ (k : ℕ). take k c.args.path.now) c.intro_length-end.ensures.value
