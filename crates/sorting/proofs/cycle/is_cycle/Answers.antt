-- `is_cycle` meets its contract: three comparisons show the cycle. Assumes nothing.
use mathlib.Core.Path.{sym, ◌∙◌}
use Rattle.sorting.proofs.TreeLaws.{tree_held}
use Rattle.sorting.proofs.CycleRefutes.{cycle-refutes}
use Rattle.sorting.proofs.cycle.is_cycle.Goals as goal

pub returns : goal.returns
returns c e =
    cycle-refutes c.args.arena.now c.requires.0 (tree_held c.type_inv.arena c.requires.0) _ _ _ (c.are_siblings.ensures c.if-not-are_siblings.false)
    (sym c.is_stronger.ensures ∙ c.if-not-is_stronger.false)
    (sym c.is_stronger-2.ensures ∙ c.if-not-is_stronger-2.false)
    (sym c.is_stronger-3.ensures ∙ e)
