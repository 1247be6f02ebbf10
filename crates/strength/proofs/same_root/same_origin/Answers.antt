-- `same_origin` meets its contract: one is authored, or neither is. Assumes nothing.
use mathlib.Core.Path.{sym, ◌∙◌}
use Rattle.strength.proofs.SameRootLaws.{authored-left, authored-right, neither-authored}
use Rattle.strength.proofs.same_root.same_origin.Goals as goal

pub returns-then-is_authored : goal.returns-then-is_authored
returns-then-is_authored c =
    c.by_sibling.ensures ∙ sym (authored-left _ _ _ (sym c.is_authored.ensures ∙ c.if-is_authored.true))

pub returns-then-is_authored-2 : goal.returns-then-is_authored-2
returns-then-is_authored-2 c =
    c.by_sibling-then-is_authored-2.ensures ∙ sym (authored-right _ _ _ (sym c.is_authored-2.ensures ∙ c.if-is_authored-2.true))

pub returns : goal.returns
returns c =
    let left = sym c.is_authored.ensures ∙ c.if-is_authored.false in
    let right = sym c.is_authored-2.ensures ∙ c.if-is_authored-2.false in
    c.then.ensures ∙ rw (c.implied_over.ensures, c.by_number.ensures) (sym (neither-authored _ _ _ left right))
