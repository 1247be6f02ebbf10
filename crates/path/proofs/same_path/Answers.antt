-- `same_path` meets its contract: std's comparison is the definition's. Assumes nothing.
use mathlib.Core.Path.{◌∙◌}
use Rattle.path.proofs.EqualLaws.{pointwise-same}
use Rattle.path.proofs.same_path.Goals as goal

pub returns : goal.returns
returns c = c.eq.ensures ∙ pointwise-same _ _
