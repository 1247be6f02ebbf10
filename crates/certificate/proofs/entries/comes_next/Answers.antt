-- `comes_next` meets its contract: each test says its part.
-- Assumes nothing.
use mathlib.Core.Path.{sym, ◌∙◌}
use mathlib.Core.Bool.{false≢true}
use borrow.Author.Tests.{not-true, not-false}
use Rattle.certificate.proofs.CopyParts.{never-next}
use Rattle.certificate.proofs.entries.comes_next.Goals as goal

pub returns-then-not-next : goal.returns-then-not-next
returns-then-not-next c =
    never-next

pub returns-then-not-uneven : goal.returns-then-not-uneven
returns-then-not-uneven c =
    record {
      special = λ e. not-false _ c.if-not-next.false;
      root = λ e uneven. absurd (false≢true (sym (not-true _ c.if-not-uneven.true-raw) ∙ uneven));
      follows = c.follows.ensures;
    }

pub returns-then-next-last : goal.returns-then-next-last
returns-then-next-last c =
    never-next

pub returns : goal.returns
returns c =
    record {
      special = λ e. not-false _ c.if-not-next.false;
      root = λ e uneven. c.if-next-last.false;
      follows = c.follows-2.ensures;
    }
