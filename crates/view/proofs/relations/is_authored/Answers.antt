-- `is_authored` meets its contract. Assumes nothing.
use mathlib.Core.Path.{sym, ap₂, ◌∙◌}
use lib.Dec.{eqb}
use Rattle.arena.proofs.ReadNodes.{has-slot}
use Rattle.view.proofs.ViewLaws.{seen}
use Rattle.view.proofs.relations.is_authored.Goals as goal

pub origin-requires : goal.origin-requires
origin-requires c =
    has-slot _ _ c.requires

pub parent-requires : goal.parent-requires
parent-requires c =
    has-slot _ _ c.requires

pub returns : goal.returns
returns c =
    let fields = seen _ _ c.requires in
    ap₂ eqb (c.origin.ensures ∙ sym fields.origin) (c.parent.ensures ∙ sym fields.parent)
