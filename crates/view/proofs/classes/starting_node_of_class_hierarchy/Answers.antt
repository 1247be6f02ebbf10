-- `starting_node_of_class_hierarchy` meets its contract. The loop's invariant: the walk from
-- `instance` on comes to where that from n comes, and the last node that it leaves, or else
-- `class_node`, is the one that that leaves. The measure is `instance`. Assumes nothing.
use mathlib.Core.Path.{sym, ◌∙◌}
use borrow.Author.Tests.{not-true, not-false}
use Rattle.view.proofs.ClassLaws.{first-stands, rising-start, rising-zero, rising-by-arc, rising-by-depth, parent-stands, rising-falls, rising_step}
use Rattle.view.proofs.classes.starting_node_of_class_hierarchy.Goals as goal

pub depth_below-depth-requires : goal.depth_below-depth-requires
depth_below-depth-requires c =
    (first-stands c.requires c.replaced-instance.ensures).readable

pub loop-instance-init : goal.loop-instance-init
loop-instance-init c =
    rising-start c.requires c.replaced-instance.ensures c.depth_below-depth.ensures.0

pub arc-requires : goal.arc-requires
arc-requires c =
    c.loop-instance.invariant.standing.readable

pub returns-then-not-is_class_based : goal.returns-then-not-is_class_based
returns-then-not-is_class_based c =
    let walk = c.loop-instance.invariant in
    let other = sym c.is_class_based.ensures ∙ not-true _ c.if-not-is_class_based.true-raw in
    rising-by-arc walk c.arc.ensures other

pub depth_below-requires : goal.depth_below-requires
depth_below-requires c =
    c.loop-instance.invariant.standing.readable

pub returns-then-depth_below-depth : goal.returns-then-depth_below-depth
returns-then-depth_below-depth c =
    let walk = c.loop-instance.invariant in
    rising-by-depth walk c.loop-instance-test.true c.depth_below.ensures.0 c.if-depth_below-depth.true

pub parent-requires : goal.parent-requires
parent-requires c =
    c.loop-instance.invariant.standing.readable

pub replaced-instance-requires-in-loop-instance : goal.replaced-instance-requires-in-loop-instance
replaced-instance-requires-in-loop-instance c =
    parent-stands c.loop-instance.invariant c.loop-instance-test.true c.parent.ensures

pub loop-instance-smaller : goal.loop-instance-smaller
loop-instance-smaller c =
    rising-falls c.loop-instance.invariant c.loop-instance-test.true c.parent.ensures
    c.replaced-instance-in-loop-instance.ensures

pub loop-instance-preserved : goal.loop-instance-preserved
loop-instance-preserved c =
    let based =
    sym c.is_class_based.ensures ∙ not-false _ c.if-not-is_class_based.false-raw in
    rising_step c.loop-instance.invariant c.loop-instance-test.true c.parent.ensures
    c.replaced-instance-in-loop-instance.ensures c.arc.ensures based
    c.depth_below.ensures.0 c.if-depth_below-depth.false

pub returns : goal.returns
returns c =
    rising-zero c.loop-instance.invariant c.loop-instance-test.false
