-- `is_class_based` meets its contract: the tests are the definition's, in its order. Assumes
-- nothing.
use borrow.Author.Tests.{eq-eqb, ne_eqb}
use Rattle.model.specs.Node.{inherit_arc}
use Rattle.view.proofs.relations.is_class_based.Goals as goal

pub returns-then-arc-eq-INHERIT : goal.returns-then-arc-eq-INHERIT
returns-then-arc-eq-INHERIT c =
    rw (eq-eqb c.args.arc inherit_arc c.if-arc-eq-INHERIT.true)

pub returns : goal.returns
returns c =
    rw (ne_eqb c.args.arc inherit_arc c.if-arc-eq-INHERIT.false)
