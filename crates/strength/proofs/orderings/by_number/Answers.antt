-- `by_number` meets its contract: std's comparison is the definition's. Assumes nothing.
use Rattle.laws.proofs.SmallerLaws.{compared}
use mathlib.Core.Path.{◌∙◌}
use Rattle.strength.proofs.orderings.by_number.Goals as goal

pub returns : goal.returns
returns c =
    c.cmp.ensures ∙ compared _ _
