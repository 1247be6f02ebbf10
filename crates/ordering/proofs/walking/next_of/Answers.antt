-- `walking::next_of` meets its contract. Assumes nothing.
use borrow.Author.Tests.{eq-eqb, ne_eqb}
use mathlib.Core.Path.{sym, ◌∙◌}
use Rattle.ordering.proofs.walking.next_of.Goals as goal

pub first_child-child-requires : goal.first_child-child-requires
first_child-child-requires c =
    record { whole = c.requires.0.whole; within = c.requires.0.within }

pub returns-then-child : goal.returns-then-child
returns-then-child c =
    let e = c.first_child-child.ensures in
    rw (ne_eqb _ _ (λ none. c.if-child.true (e ∙ none))) e

pub climb-requires : goal.climb-requires
climb-requires c =
    c.requires

pub returns : goal.returns
returns c =
    rw (eq-eqb _ _ (sym c.first_child-child.ensures ∙ c.if-child.false)) c.climb.ensures
