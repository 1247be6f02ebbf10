-- `contributes` meets its contract: the tests are the definition's, in its order. Assumes nothing.
use mathlib.Core.Path.{sym, ap, ◌∙◌}
use mathlib.Core.Bool.{not}
use Rattle.nodes.proofs.calls.contributes.Goals as goal

pub returns-then-is_inert : goal.returns-then-is_inert
returns-then-is_inert c =
    rw (sym c.is_inert.ensures ∙ c.if-is_inert.true)

pub returns : goal.returns
returns c =
    rw (sym c.is_inert.ensures ∙ c.if-is_inert.false) (ap not c.is_culled.ensures)
