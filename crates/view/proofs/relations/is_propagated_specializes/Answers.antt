-- `is_propagated_specializes` meets its contract: the tests are the definition's, in its order;
-- only a Specialize, which is not node 0, has its origin read. Assumes nothing.
use mathlib.Core.Path.{◌≡◌, sym, ap, ◌∙◌}
use borrow.Author.Tests.{eq-eqb, ne_eqb}
use Rattle.model.specs.Node.{specialize_arc}
use Rattle.arena.proofs.ReadNodes.{has-slot}
use Rattle.view.specs.View.{view_in}
use Rattle.view.proofs.ViewLaws.{readable-origin, seen}
use Rattle.view.proofs.LocalRootLaws.{not-specialize, specialize-positive, propagated-read}
use Rattle.view.proofs.relations.is_propagated_specializes.Goals as goal

pub arc-requires : goal.arc-requires
arc-requires c =
    has-slot _ _ c.requires.readable

pub returns-then-arc-ne-SPECIALIZE : goal.returns-then-arc-ne-SPECIALIZE
returns-then-arc-ne-SPECIALIZE c =
    sym (not-specialize _ _ _ c.requires (λ e. c.if-arc-ne-SPECIALIZE.true (c.arc.ensures ∙ sym (seen _ _ c.requires.readable).arc ∙ e)))

pub returns-then-root-eq0 : goal.returns-then-root-eq0
returns-then-root-eq0 c =
    let specialize : (view_in c.args.arena.now).arc c.args.n ≡ specialize_arc =
    (seen _ _ c.requires.readable).arc ∙ sym c.arc.ensures ∙ c.if-arc-ne-SPECIALIZE.false in
    rw (propagated-read _ _ _ c.requires specialize, eq-eqb c.args.root 0 c.if-root-eq0.true)

pub parent-requires : goal.parent-requires
parent-requires c =
    has-slot _ _ c.requires.readable

pub returns-then-parent-root : goal.returns-then-parent-root
returns-then-parent-root c =
    let specialize : (view_in c.args.arena.now).arc c.args.n ≡ specialize_arc =
    (seen _ _ c.requires.readable).arc ∙ sym c.arc.ensures ∙ c.if-arc-ne-SPECIALIZE.false in
    let parent : c.parent.result ≡ (view_in c.args.arena.now).parent c.args.n =
    c.parent.ensures ∙ sym (seen _ _ c.requires.readable).parent in
    rw (
      propagated-read _ _ _ c.requires specialize,
      ne_eqb c.args.root 0 c.if-root-eq0.false,
      ne_eqb ((view_in c.args.arena.now).parent c.args.n) c.args.root (λ e. c.if-parent-root.true (parent ∙ e)),
    )

pub origin-origin-requires : goal.origin-origin-requires
origin-origin-requires c =
    has-slot _ _ c.requires.readable

pub same_site-requires : goal.same_site-requires
same_site-requires c =
    let specialize : (view_in c.args.arena.now).arc c.args.n ≡ specialize_arc =
    (seen _ _ c.requires.readable).arc ∙ sym c.arc.ensures ∙ c.if-arc-ne-SPECIALIZE.false in
    let origin : c.origin-origin.result ≡ (view_in c.args.arena.now).origin c.args.n =
    c.origin-origin.ensures ∙ sym (seen _ _ c.requires.readable).origin in
    (c.requires.readable, rw origin (readable-origin _ _ c.requires.readable (specialize-positive _ _ _ c.requires specialize)))

pub returns : goal.returns
returns c =
    let specialize : (view_in c.args.arena.now).arc c.args.n ≡ specialize_arc =
    (seen _ _ c.requires.readable).arc ∙ sym c.arc.ensures ∙ c.if-arc-ne-SPECIALIZE.false in
    let parent : c.parent.result ≡ (view_in c.args.arena.now).parent c.args.n =
    c.parent.ensures ∙ sym (seen _ _ c.requires.readable).parent in
    let origin : c.origin-origin.result ≡ (view_in c.args.arena.now).origin c.args.n =
    c.origin-origin.ensures ∙ sym (seen _ _ c.requires.readable).origin in
    rw (
      propagated-read _ _ _ c.requires specialize,
      ne_eqb c.args.root 0 c.if-root-eq0.false,
      eq-eqb ((view_in c.args.arena.now).parent c.args.n) c.args.root (sym parent ∙ c.if-parent-root.false),
    ) (c.same_site.ensures ∙ ap ((view_in c.args.arena.now).same_site c.args.n) origin)
