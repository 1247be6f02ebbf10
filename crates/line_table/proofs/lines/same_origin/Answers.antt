-- `same_origin` meets its contract: one is authored, or neither is. Assumes nothing.
use mathlib.Core.Path.{sym, ◌∙◌}
use Rattle.strength.proofs.SameRootLaws.{authored-left, authored-right, neither-authored}
use Rattle.line_table.proofs.lines.same_origin.Goals as goal

pub returns-then-a : goal.returns-then-a
returns-then-a c =
    λ u p q. c.by_sibling.ensures u p q ∙ sym (authored-left u _ _ (sym p.authored ∙ c.if-a.true))

pub returns-then-b : goal.returns-then-b
returns-then-b c =
    λ u p q. c.by_sibling-then-b.ensures u p q ∙ sym (authored-right u _ _ (sym q.authored ∙ c.if-b.true))

pub returns : goal.returns
returns c =
    λ u p q.
    c.then.ensures
    ∙ rw (c.by_having.ensures, c.by_number.ensures, p.implied, q.implied)
    (sym (neither-authored u _ _ (sym p.authored ∙ c.if-a.false) (sym q.authored ∙ c.if-b.false)))
