-- `parent` meets its contract: the field that is read is the view's. Assumes nothing.
use mathlib.Core.Path.{sym, ◌∙◌}
use Rattle.arena.proofs.ReadNodes.{has-slot}
use Rattle.view.proofs.ViewLaws.{seen}
use Rattle.view.proofs.fields.parent.Goals as goal

pub parent-requires : goal.parent-requires
parent-requires c =
    has-slot _ _ c.requires

pub returns : goal.returns
returns c =
    c.parent.ensures ∙ sym (seen _ _ c.requires).parent
