-- `sibling` meets its contract: the field that is read is the view's. Assumes nothing.
use mathlib.Core.Path.{sym, ◌∙◌}
use Rattle.arena.proofs.ReadNodes.{has-slot}
use Rattle.view.proofs.ViewLaws.{seen}
use Rattle.view.proofs.fields.sibling.Goals as goal

pub sibling-requires : goal.sibling-requires
sibling-requires c =
    has-slot _ _ c.requires

pub returns : goal.returns
returns c =
    c.sibling.ensures ∙ sym (seen _ _ c.requires).sibling
