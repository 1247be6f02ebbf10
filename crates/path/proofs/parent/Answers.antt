-- `parent` meets its contract: the front part has the parent's length. Assumes nothing.
use mathlib.Core.Path.{sym, ap}
use Prim.Native.Nat.{ℕ}
use lib.Seq.{length-take-le}
use Rattle.model.specs.Path.{parent}
use lib.ListN.{take}
use Rattle.path.proofs.parent.Goals as goal

pub slice_bounds-result-end : goal.slice_bounds-result-end
slice_bounds-result-end c =
    sym (length-take-le _ _ c.parent_length-end.ensures.upper_bound)

pub returns : goal.returns
unfolding parent
returns c =
    ap (λ (k : ℕ). take k c.args.path.now) c.parent_length-end.ensures.value
