-- `settle_plain` meets its contract: the plain lines settle it, or ask of one node twice. Assumes
-- nothing.
use Rattle.strength.proofs.SiblingLines.{not-both-special}
use Rattle.strength.proofs.ComparisonCycle.{siblings-resolved, asked-itself}
use Rattle.strength.proofs.lines.settle_plain.Goals as goal

pub returns-then-x-y : goal.returns-then-x-y
returns-then-x-y c =
    asked-itself c.requires.pair.0 _ c.in-Ask.is c.if-x-y.true
    (not-both-special _ _ _ _ c.requires.pair.1 c.requires.b_value c.weigh_plain.ensures)

pub returns-in-Settled : goal.returns-in-Settled
returns-in-Settled c =
    siblings-resolved c.requires.pair.0 _ _ c.in-Settled.is
    (not-both-special _ _ _ _ c.requires.pair.1 c.requires.b_value c.weigh_plain.ensures)
