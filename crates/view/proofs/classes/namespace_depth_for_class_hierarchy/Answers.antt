-- `namespace_depth_for_class_hierarchy` meets its contract: each call gives what the definition
-- asks next. Assumes nothing.
use mathlib.Core.Path.{ap, ◌∙◌}
use native.Mathlib.Omega.{arith}
use Rattle.model.specs.ArenaCalls.{ValidNode}
use Rattle.model.specs.Strength.{skip_relocates, namespace_depth_for_class_hierarchy}
use Rattle.laws.proofs.StrengthWalks.{starting-node-le, skip-le}
use Rattle.view.specs.View.{view_in}
use Rattle.view.proofs.ViewLaws.{legal, readable-lower}
use Rattle.view.proofs.classes.namespace_depth_for_class_hierarchy.Goals as goal

pub skip_relocates-requires : goal.skip_relocates-requires
skip_relocates-requires c =
    let starts : ValidNode c.args.arena.now c.starting_node_of_class_hierarchy-start.result.instance =
    let r = c.requires.readable in
    let low = starting-node-le (legal _ r.opened) _ r.below in
    readable-lower _ _ _ r (omega (arith, low, c.starting_node_of_class_hierarchy-start.ensures.instance)) in
    starts

pub depth-requires : goal.depth-requires
depth-requires c =
    let starts : ValidNode c.args.arena.now c.starting_node_of_class_hierarchy-start.result.instance =
    let r = c.requires.readable in
    let low = starting-node-le (legal _ r.opened) _ r.below in
    readable-lower _ _ _ r (omega (arith, low, c.starting_node_of_class_hierarchy-start.ensures.instance)) in
    let r = starts in
    let low = skip-le (legal _ r.opened) _ r.below in
    readable-lower _ _ _ r (omega (arith, low, c.skip_relocates.ensures))

pub returns : goal.returns
unfolding namespace_depth_for_class_hierarchy
returns c =
    let u = view_in c.args.arena.now in
    c.depth.ensures
    ∙ ap u.depth
    (c.skip_relocates.ensures ∙ ap (skip_relocates u) c.starting_node_of_class_hierarchy-start.ensures.instance)
