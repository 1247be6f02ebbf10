-- `class_depth` meets its contract: the test is the definition's. Assumes nothing.
use mathlib.Core.Path.{sym, ap, ◌∙◌}
use native.Mathlib.Omega.{arith}
use borrow.Author.Tests.{eq-eqb, ne_eqb}
use Rattle.model.specs.Strength.{namespace_depth_for_class_hierarchy, class_depth}
use Rattle.view.specs.View.{view_in}
use Rattle.view.proofs.ViewLaws.{legal, standing-lower}
use Rattle.view.proofs.classes.class_depth.Goals as goal

pub returns-then-origin-parent : goal.returns-then-origin-parent
unfolding class_depth
returns-then-origin-parent c =
    rw (eq-eqb _ _ (sym c.origin-origin.ensures ∙ c.if-origin-parent.true ∙ c.parent.ensures))

pub namespace_depth_for_class_hierarchy-requires : goal.namespace_depth_for_class_hierarchy-requires
namespace_depth_for_class_hierarchy-requires c =
    let s = c.requires.0 in
    let low = (legal _ s.readable.opened).origin-lower _ c.requires.1 s.readable.below in
    standing-lower _ _ _ _ s (omega (arith, low, c.origin-origin.ensures))

pub returns : goal.returns
unfolding class_depth
returns c =
    let u = view_in c.args.arena.now in
    rw (ne_eqb _ _ (λ e. c.if-origin-parent.false (c.origin-origin.ensures ∙ e ∙ sym c.parent.ensures)))
    (c.namespace_depth_for_class_hierarchy.ensures ∙ ap (namespace_depth_for_class_hierarchy u) c.origin-origin.ensures)
