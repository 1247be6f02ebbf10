-- `is_kept` meets its contract: the tests come in the definition's order. Assumes nothing.
use mathlib.Core.Path.{◌≡◌, sym, ap, ◌∙◌}
use mathlib.Core.Bool.{false, not}
use borrow.Author.Tests.{eq-eqb, ne_eqb}
use lib.Dec.{eqb}
use Rattle.model.specs.Node.{root_arc, inert_flag, has_flag}
use Rattle.model.specs.Graph.{node_at, depth_below_introduction}
use Rattle.model.specs.Arena.{decode}
use Rattle.model.specs.Culling.{keeps_inherit}
use Rattle.arena.proofs.ReadNodes.{has-slot}
use Rattle.view.proofs.ViewLaws.{seen}
use Rattle.culling.specs.Culled.{is_kept}
use Rattle.culling.proofs.NodeTests.{has-specs-read}
use Rattle.culling.proofs.deciding.is_kept.Goals as goal

pub returns-then-arc-eq-ROOT : goal.returns-then-arc-eq-ROOT
unfolding is_kept
returns-then-arc-eq-ROOT c =
    rw (eq-eqb _ root_arc (sym c.arc.ensures ∙ c.if-arc-eq-ROOT.true))

pub returns-then-depth_below-eq0 : goal.returns-then-depth_below-eq0
unfolding is_kept
returns-then-depth_below-eq0 c =
    let no-root : eqb (node_at (decode c.args.arena.now).nodes c.args.n).arc root_arc ≡ false =
    ne_eqb _ root_arc (λ e. c.if-arc-eq-ROOT.false (c.arc.ensures ∙ e)) in
    rw (no-root, eq-eqb _ 0 (sym c.depth_below.ensures.0 ∙ c.if-depth_below-eq0.true))

pub returns-then-keeps_inherit : goal.returns-then-keeps_inherit
unfolding is_kept
returns-then-keeps_inherit c =
    let no-root : eqb (node_at (decode c.args.arena.now).nodes c.args.n).arc root_arc ≡ false =
    ne_eqb _ root_arc (λ e. c.if-arc-eq-ROOT.false (c.arc.ensures ∙ e)) in
    let below : eqb (depth_below_introduction (decode c.args.arena.now).nodes c.args.n) 0 ≡ false =
    ne_eqb _ 0 (λ e. c.if-depth_below-eq0.false (c.depth_below.ensures.0 ∙ e)) in
    rw (no-root, below, sym c.keeps_inherit.ensures ∙ c.if-keeps_inherit.true)

pub has_specs-requires : goal.has_specs-requires
has_specs-requires c =
    has-slot _ _ c.requires.readable

pub returns-then-has_specs-ne1 : goal.returns-then-has_specs-ne1
unfolding is_kept
returns-then-has_specs-ne1 c =
    let no-root : eqb (node_at (decode c.args.arena.now).nodes c.args.n).arc root_arc ≡ false =
    ne_eqb _ root_arc (λ e. c.if-arc-eq-ROOT.false (c.arc.ensures ∙ e)) in
    let below : eqb (depth_below_introduction (decode c.args.arena.now).nodes c.args.n) 0 ≡ false =
    ne_eqb _ 0 (λ e. c.if-depth_below-eq0.false (c.depth_below.ensures.0 ∙ e)) in
    let no-inherit : keeps_inherit (decode c.args.arena.now).nodes c.args.n ≡ false =
    sym c.keeps_inherit.ensures ∙ c.if-keeps_inherit.false in
    let specs = has-specs-read c.args.arena.now c.args.n c.requires.readable in
    rw (
      no-root,
      below,
      no-inherit,
      ne_eqb _ 1 (λ e. c.if-has_specs-ne1.true (c.has_specs.ensures ∙ sym specs ∙ e)),
    )

pub flags-requires : goal.flags-requires
flags-requires c =
    has-slot _ _ c.requires.readable

pub returns : goal.returns
unfolding is_kept
returns c =
    let no-root : eqb (node_at (decode c.args.arena.now).nodes c.args.n).arc root_arc ≡ false =
    ne_eqb _ root_arc (λ e. c.if-arc-eq-ROOT.false (c.arc.ensures ∙ e)) in
    let below : eqb (depth_below_introduction (decode c.args.arena.now).nodes c.args.n) 0 ≡ false =
    ne_eqb _ 0 (λ e. c.if-depth_below-eq0.false (c.depth_below.ensures.0 ∙ e)) in
    let no-inherit : keeps_inherit (decode c.args.arena.now).nodes c.args.n ≡ false =
    sym c.keeps_inherit.ensures ∙ c.if-keeps_inherit.false in
    let specs = has-specs-read c.args.arena.now c.args.n c.requires.readable in
    rw (
      no-root,
      below,
      no-inherit,
      eq-eqb _ 1 (specs ∙ sym c.has_specs.ensures ∙ c.if-has_specs-ne1.false),
    )
    (ap not (c.is_inert.ensures ∙ ap (has_flag inert_flag) (c.flags.ensures ∙ sym (seen _ _ c.requires.readable).flags)))
