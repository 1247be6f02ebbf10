-- `local_line` meets its contract: each test that fails makes it Equal. Assumes nothing.
use mathlib.Core.Path.{sym, ◌∙◌}
use borrow.Author.Tests.{not-true, not-false}
use Rattle.strength.proofs.SameRootLaws.{local-authored-left, local-authored-right, not-local-left, not-local-right, both-local}
use Rattle.line_table.proofs.lines.local_line.Goals as goal

pub returns-then-a : goal.returns-then-a
returns-then-a c =
    λ u p q. sym (local-authored-left u _ _ (sym p.authored ∙ c.if-a.true))

pub returns-then-b : goal.returns-then-b
returns-then-b c =
    λ u p q. sym (local-authored-right u _ _ (sym q.authored ∙ c.if-b.true))

pub returns-then-not-a : goal.returns-then-not-a
returns-then-not-a c =
    λ u p q. sym (not-local-left u _ _ (sym p.local ∙ not-true _ c.if-not-a.true))

pub returns-then-not-b : goal.returns-then-not-b
returns-then-not-b c =
    λ u p q. sym (not-local-right u _ _ (sym q.local ∙ not-true _ c.if-not-b.true))

pub returns : goal.returns
returns c =
    λ u p q.
    rw (← p.implied, ← q.implied) c.by_having.ensures
    ∙ sym (both-local u _ _ (sym p.authored ∙ c.if-a.false) (sym q.authored ∙ c.if-b.false)
    (sym p.local ∙ not-false _ c.if-not-a.false) (sym q.local ∙ not-false _ c.if-not-b.false))
