-- `local_line` meets its contract: each test that fails makes it Equal. Assumes nothing.
use mathlib.Core.Path.{sym, ◌∙◌}
use borrow.Author.Tests.{not-true, not-false}
use Rattle.strength.proofs.SameRootLaws.{local-authored-left, local-authored-right, not-local-left, not-local-right, both-local}
use Rattle.strength.proofs.same_root.local_line.Goals as goal

pub returns-then-is_authored : goal.returns-then-is_authored
returns-then-is_authored c =
    sym (local-authored-left _ _ _ (sym c.is_authored.ensures ∙ c.if-is_authored.true))

pub returns-then-is_authored-2 : goal.returns-then-is_authored-2
returns-then-is_authored-2 c =
    sym (local-authored-right _ _ _ (sym c.is_authored-2.ensures ∙ c.if-is_authored-2.true))

pub returns-then-not-in_local_stack : goal.returns-then-not-in_local_stack
returns-then-not-in_local_stack c =
    sym (not-local-left _ _ _ (sym c.in_local_stack.ensures ∙ not-true _ c.if-not-in_local_stack.true-raw))

pub returns-then-not-in_local_stack-2 : goal.returns-then-not-in_local_stack-2
returns-then-not-in_local_stack-2 c =
    sym (not-local-right _ _ _ (sym c.in_local_stack-2.ensures ∙ not-true _ c.if-not-in_local_stack-2.true-raw))

pub returns : goal.returns
returns c =
    c.implied_over.ensures
    ∙ sym (both-local _ _ _
    (sym c.is_authored.ensures ∙ c.if-is_authored.false)
    (sym c.is_authored-2.ensures ∙ c.if-is_authored-2.false)
    (sym c.in_local_stack.ensures ∙ not-false _ c.if-not-in_local_stack.false-raw)
    (sym c.in_local_stack-2.ensures ∙ not-false _ c.if-not-in_local_stack-2.false-raw))
