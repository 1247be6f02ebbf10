-- `depth_line` meets its contract: one depth, R nested, or the larger depth. Assumes nothing.
use mathlib.Core.Path.{sym, ◌∙◌}
use Rattle.strength.proofs.VerdictNumbers.{read_same, read-smaller}
use Rattle.strength.proofs.SpecializesLaws.{one-depth, roots-nested, not-nested, root-standing}
use Rattle.strength.proofs.specializes.depth_line.Goals as goal

pub returns-then-x-y : goal.returns-then-x-y
returns-then-x-y c =
    sym (one-depth _ _ _ (read_same c.depth-x.ensures c.depth-y.ensures c.if-x-y.true))

pub origins_are_nested-requires : goal.origins_are_nested-requires
origins_are_nested-requires c =
    (root-standing _ c.requires.0.left c.requires.1, root-standing _ c.requires.0.right c.requires.2)

pub returns-then-origins_are_nested : goal.returns-then-origins_are_nested
returns-then-origins_are_nested c =
    sym (roots-nested _ _ _ _ _ c.requires.1 c.requires.2 (sym c.origins_are_nested.ensures ∙ c.if-origins_are_nested.true))

pub returns : goal.returns
returns c =
    read-smaller c.depth-y.ensures c.depth-x.ensures c.by_number.ensures
    ∙ sym (not-nested _ _ _ _ _ c.requires.1 c.requires.2 (sym c.origins_are_nested.ensures ∙ c.if-origins_are_nested.false))
