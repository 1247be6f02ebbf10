-- `find_copy` meets its contract: the tests are the definition's, in its order. Assumes nothing.
use mathlib.Core.Path.{sym, ◌∙◌}
use Rattle.view.proofs.LocalRootLaws.{root-readable}
use Rattle.strength.proofs.CopyLaws.{no-copy-of-arc, no-copy-without-root, copy-in-list}
use Rattle.strength.proofs.propagated.find_copy.Goals as goal

pub arc-requires : goal.arc-requires
arc-requires c =
    c.requires.readable

pub returns-then-arc-ne-SPECIALIZE : goal.returns-then-arc-ne-SPECIALIZE
returns-then-arc-ne-SPECIALIZE c =
    sym (no-copy-of-arc _ _ _ c.requires (λ e. c.if-arc-ne-SPECIALIZE.true (c.arc.ensures ∙ e)))

pub returns-then-root-eq0 : goal.returns-then-root-eq0
returns-then-root-eq0 c =
    sym (no-copy-without-root _ _ _ c.requires (sym c.arc.ensures ∙ c.if-arc-ne-SPECIALIZE.false) c.if-root-eq0.true)

pub first_copy-requires : goal.first_copy-requires
first_copy-requires c =
    record { readable = root-readable _ _ _ c.requires c.if-root-eq0.false; root-read = c.requires.root-read }

pub returns : goal.returns
returns c =
    c.first_copy.ensures ∙ sym (copy-in-list _ _ _ c.requires (sym c.arc.ensures ∙ c.if-arc-ne-SPECIALIZE.false) c.if-root-eq0.false)
