-- `origins_are_nested` meets its contract: the tests are the definition's, in its order. Assumes
-- nothing.
use mathlib.Core.Path.{sym, ◌∙◌}
use Rattle.model.specs.Strength.{origins_are_nested}
use Rattle.view.proofs.origins.origins_are_nested.Goals as goal

pub returns-then-is_nested_under : goal.returns-then-is_nested_under
unfolding origins_are_nested
returns-then-is_nested_under c =
    rw (sym c.is_nested_under.ensures ∙ c.if-is_nested_under.true)

pub returns : goal.returns
unfolding origins_are_nested
returns c =
    rw (sym c.is_nested_under.ensures ∙ c.if-is_nested_under.false) c.is_nested_under-2.ensures
