-- `outward` meets its contract: to the origin of a propagated specializes, else to the parent.
-- Assumes nothing.
use mathlib.Core.Path.{sym, ◌∙◌}
use Rattle.model.specs.Strength.{outward}
use Rattle.arena.proofs.ReadNodes.{has-slot}
use Rattle.view.proofs.ViewLaws.{seen}
use Rattle.view.proofs.relations.outward.Goals as goal

pub origin-requires : goal.origin-requires
origin-requires c =
    has-slot _ _ c.requires.readable

pub returns-then-is_propagated_specializes : goal.returns-then-is_propagated_specializes
unfolding outward
returns-then-is_propagated_specializes c =
    rw (sym c.is_propagated_specializes.ensures ∙ c.if-is_propagated_specializes.true)
    (c.origin.ensures ∙ sym (seen _ _ c.requires.readable).origin)

pub parent-requires : goal.parent-requires
parent-requires c =
    has-slot _ _ c.requires.readable

pub returns : goal.returns
unfolding outward
returns c =
    rw (sym c.is_propagated_specializes.ensures ∙ c.if-is_propagated_specializes.false)
    (c.parent.ensures ∙ sym (seen _ _ c.requires.readable).parent)
