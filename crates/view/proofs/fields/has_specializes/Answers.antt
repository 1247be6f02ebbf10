-- `has_specializes` meets its contract: the flag is read of the view's flags. Assumes nothing.
use mathlib.Core.Path.{sym, ap, ◌∙◌}
use Rattle.model.specs.Node.{has_flag, has_specializes_flag}
use Rattle.arena.proofs.ReadNodes.{has-slot}
use Rattle.view.proofs.ViewLaws.{seen}
use Rattle.view.proofs.fields.has_specializes.Goals as goal

pub flags-requires : goal.flags-requires
flags-requires c =
    has-slot _ _ c.requires

pub returns : goal.returns
returns c =
    ap (has_flag has_specializes_flag) (c.flags.ensures ∙ sym (seen _ _ c.requires).flags)
