-- `order_valid` meets its contract. Assumes nothing.
use mathlib.Core.Path.{sym, ◌∙◌}
use Rattle.validate.proofs.EntriesLaws.{order-unmarked, order-marked}
use Rattle.validate.proofs.graph.order_valid.Goals as goal

pub returns-then-ordered-eq0 : goal.returns-then-ordered-eq0
returns-then-ordered-eq0 c =
    sym (order-unmarked _ (sym c.ordered.ensures ∙ c.if-ordered-eq0.true))

pub returns : goal.returns
returns c =
    c.entries_valid.ensures ∙ sym (order-marked _ (λ e. c.if-ordered-eq0.false (c.ordered.ensures ∙ e)))
