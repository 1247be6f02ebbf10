-- `without_selections` meets its contract. The loop's invariant: what is left of the first `k`
-- bytes is what is left of the first `end`.
-- The measure is `k`. Assumes nothing.
use native.Mathlib.Omega.{arith}
use Rattle.path.proofs.BackwardLaws.{drops-one, ends-in-some}
use mathlib.Core.Path.{◌∙◌, sym, ap}
use mathlib.Core.Bool.{false}
use Rattle.model.specs.Path.{without_selections, close_brace}
use Rattle.path.proofs.back.without_selections.Goals as goal

pub loop-k-smaller : goal.loop-k-smaller
loop-k-smaller c =
    c.selection_start-k.ensures.2 (ends-in-some close_brace c.args.path.now c.loop-k.k (sym c.ends_in.ensures ∙ c.loop-k-test.true))

pub loop-k-preserved : goal.loop-k-preserved
loop-k-preserved c =
    (ap (without_selections false c.args.path.now) c.selection_start-k.ensures.0 ∙ sym (drops-one c.args.path.now c.loop-k.k (sym c.ends_in.ensures ∙ c.loop-k-test.true)) ∙ c.loop-k.invariant.0, omega (arith, c.selection_start-k.ensures.1, c.loop-k.invariant.1))
