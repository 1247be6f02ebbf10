-- `is_ordered` meets its contract: the header's mark is the graph's. Assumes nothing.
use mathlib.Core.Path.{ap, ◌∙◌}
use Prim.Native.Nat.{ℕ}
use lib.Dec.{eqb}
use Rattle.ordering.proofs.OrderEntries.{ordered-read}
use Rattle.ordering.proofs.calls.is_ordered.Goals as goal

pub returns : goal.returns
returns c =
    ap (λ (m : ℕ). eqb m 1) c.ordered.ensures ∙ ordered-read c.args.arena.now
