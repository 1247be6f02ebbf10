-- `is_copy` meets its contract: the tests are the definition's, in its order. Assumes nothing.
use mathlib.Core.Path.{sym, ◌∙◌}
use borrow.Author.Tests.{eq-eqb, ne_eqb}
use Rattle.view.specs.View.{view_in}
use Rattle.strength.proofs.propagated.is_copy.Goals as goal

pub origin-requires : goal.origin-requires
origin-requires c =
    c.requires.readable

pub returns-then-origin-n : goal.returns-then-origin-n
returns-then-origin-n c =
    rw (ne_eqb ((view_in c.args.arena.now).origin c.args.child) c.args.n (λ e. c.if-origin-n.true (c.origin.ensures ∙ e)))

pub returns : goal.returns
returns c =
    rw (eq-eqb ((view_in c.args.arena.now).origin c.args.child) c.args.n (sym c.origin.ensures ∙ c.if-origin-n.false)) c.is_propagated_specializes.ensures
