-- `is_name_start` meets its contract: the tests are the definition's, in its order. Assumes
-- nothing.
use mathlib.Core.Path.{◌∙◌, sym}
use Rattle.model.specs.Path.{is_name_start}
use Rattle.path.proofs.scan.is_name_start.Goals as goal

pub returns-then-within : goal.returns-then-within
unfolding is_name_start
returns-then-within c =
    rw (sym c.within.ensures ∙ c.if-within.true)

pub returns-then-within-2 : goal.returns-then-within-2
unfolding is_name_start
returns-then-within-2 c =
    rw (sym c.within.ensures ∙ c.if-within.false, sym c.within-2.ensures ∙ c.if-within-2.true)

pub returns : goal.returns
unfolding is_name_start
returns c =
    rw (sym c.within.ensures ∙ c.if-within.false, sym c.within-2.ensures ∙ c.if-within-2.false)
