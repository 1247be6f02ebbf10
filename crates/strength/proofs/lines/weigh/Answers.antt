-- `weigh` meets its contract: one of the two lists goes on. Assumes nothing.
use mathlib.Core.Path.{sym, ◌∙◌}
use Rattle.strength.proofs.SiblingLines.{both-special, not-both-special}
use Rattle.strength.proofs.lines.weigh.Goals as goal

pub returns-then-both_specialize : goal.returns-then-both_specialize
returns-then-both_specialize c =
    both-special _ _ _ _ c.requires.1 (sym c.both_specialize.ensures ∙ c.if-both_specialize.true)
    c.weigh_specializes.ensures

pub returns : goal.returns
returns c =
    not-both-special _ _ _ _ c.requires.1 (sym c.both_specialize.ensures ∙ c.if-both_specialize.false)
    c.weigh_plain.ensures
