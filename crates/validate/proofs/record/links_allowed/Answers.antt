-- `links_allowed` meets its contract: the tests are the definition's, in its order. Assumes
-- nothing.
use borrow.Author.Tests.{eq-eqb, ne_eqb, lt-ltb, le-ltb}
use Rattle.validate.proofs.record.links_allowed.Goals as goal

pub returns-then-before-eq0 : goal.returns-then-before-eq0
returns-then-before-eq0 c =
    rw (eq-eqb c.args.before.count 0 c.if-before-eq0.true) c.is_root.ensures

pub returns-then-numbers-before : goal.returns-then-numbers-before
returns-then-numbers-before c =
    rw (ne_eqb c.args.before.count 0 c.if-before-eq0.false, le-ltb c.args.numbers.parent c.args.before.count c.if-numbers-before.true)

pub returns : goal.returns
returns c =
    rw (ne_eqb c.args.before.count 0 c.if-before-eq0.false, lt-ltb c.args.numbers.parent c.args.before.count c.if-numbers-before.false)
