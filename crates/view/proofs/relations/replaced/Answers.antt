-- `replaced` meets its contract: a propagated specializes is its origin. Assumes nothing.
use mathlib.Core.Path.{sym, ◌∙◌}
use Rattle.model.specs.Strength.{replaced}
use Rattle.arena.proofs.ReadNodes.{has-slot}
use Rattle.view.proofs.ViewLaws.{seen}
use Rattle.view.proofs.relations.replaced.Goals as goal

pub origin-requires : goal.origin-requires
origin-requires c =
    has-slot _ _ c.requires.readable

pub returns-then-is_propagated_specializes : goal.returns-then-is_propagated_specializes
unfolding replaced
returns-then-is_propagated_specializes c =
    rw (sym c.is_propagated_specializes.ensures ∙ c.if-is_propagated_specializes.true)
    (c.origin.ensures ∙ sym (seen _ _ c.requires.readable).origin)

pub returns : goal.returns
unfolding replaced
returns c =
    rw (sym c.is_propagated_specializes.ensures ∙ c.if-is_propagated_specializes.false)
