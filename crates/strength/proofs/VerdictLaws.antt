-- The origins of two siblings are asked: they are nodes of the graph, and their sum is lower.
-- Assumes nothing.
use mathlib.Core.Path.{◌≡◌, refl}
use mathlib.Core.List.{List}
use Prim.Native.Nat.{ℕ, ◌+◌, ◌<◌}
use native.Mathlib.Omega.{arith}
use Rattle.std.specs.declared.cmp.Ordering.{Ordering}
use Rattle.model.specs.Arena.{count_in}
use Rattle.model.specs.ArenaCalls.{ValidNode}
use Rattle.model.specs.Strength.{smaller}
use Rattle.laws.proofs.Views.{LegalView}
use Rattle.view.specs.View.{view_in}
use Rattle.view.proofs.ViewLaws.{legal, readable-origin}
use Rattle.model.specs.declared.Verdict.TheVariants.{Ask}
use Rattle.strength.specs.Verdicts.{Pair, origins_then_numbers, DecidedBy}

module _ {bs : List ℕ} {root a b : ℕ} (pair : Pair bs root a b) where
  pub links-lower : LegalView (count_in bs) (view_in bs)
  links-lower = legal bs pair.left.readable.opened

  -- the origins' sum is lower
  pub origins-asked : ValidNode bs ((view_in bs).origin a) × ValidNode bs ((view_in bs).origin b) × ((view_in bs).origin a + (view_in bs).origin b < a + b)
  origins-asked = (
    readable-origin bs a pair.left.readable pair.left-above,
    readable-origin bs b pair.right.readable pair.right-above,
    omega (arith, links-lower.origin-lower a pair.left-above pair.left.readable.below, links-lower.origin-lower b pair.right-above pair.right.readable.below),
  )

  -- "node strength of the origins", then numbers
  pub origins-then-numbers : {x y : ℕ} {o : Ordering} → x ≡ (view_in bs).origin a → y ≡ (view_in bs).origin b → o ≡ smaller a b
      → DecidedBy (origins_then_numbers (view_in bs)) bs a b (Ask x y o)
  origins-then-numbers p q e = rw (p, q, e) record { agrees = λ nodes. refl; asks = origins-asked }
