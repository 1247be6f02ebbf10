-- `weigh` meets its contract: the ranks differ, or one of the two lists goes on. Assumes nothing.
use borrow.Author.Tests.{not-true, not-false}
use Rattle.line_table.proofs.EntryLines.{ranks-differ, left-plain, right-plain, both-special}
use Rattle.line_table.proofs.lines.weigh.Goals as goal

pub returns-then-a-b : goal.returns-then-a-b
returns-then-a-b c =
    ranks-differ _ _ _ c.if-a-b.true c.by_number.ensures

pub returns-then-not-a : goal.returns-then-not-a
returns-then-not-a c =
    left-plain _ _ _ c.if-a-b.false (not-true _ c.if-not-a.true) c.weigh_plain.ensures

pub returns-then-not-b : goal.returns-then-not-b
returns-then-not-b c =
    right-plain _ _ _ c.if-a-b.false (not-true _ c.if-not-b.true) c.weigh_plain-then-not-b.ensures

pub returns : goal.returns
returns c =
    both-special _ _ _ c.if-a-b.false (not-false _ c.if-not-a.false) (not-false _ c.if-not-b.false)
    c.weigh_specializes.ensures
