-- `rank` meets its contract: the rank of the arc that is read, which is the view's. Assumes nothing.
use mathlib.Core.Path.{sym, ap, ◌∙◌}
use Rattle.arena.proofs.ReadNodes.{has-slot}
use Rattle.model.specs.Strength.{arc_rank}
use Rattle.view.proofs.ViewLaws.{seen}
use Rattle.view.proofs.fields.rank.Goals as goal

pub arc-requires : goal.arc-requires
arc-requires c =
    has-slot _ _ c.requires

pub arc_rank-requires : goal.arc_rank-requires
arc_rank-requires c =
    tt

pub returns : goal.returns
returns c =
    c.arc_rank.ensures ∙ ap arc_rank (c.arc.ensures ∙ sym (seen _ _ c.requires).arc)
