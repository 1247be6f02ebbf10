-- `state_valid` meets its contract: the marks are read from the header. Assumes nothing.
use mathlib.Core.Path.{◌∙◌}
use Rattle.validate.specs.Validate.{marks_at}
use Rattle.validate.proofs.graph.state_valid.Goals as goal

pub returns : goal.returns
unfolding marks_at
returns c =
    c.state_allowed.ensures
    ∙ (λ i. marks_at (c.ordered.ensures i) (c.finalized.ensures i) (c.shallow.ensures i))
