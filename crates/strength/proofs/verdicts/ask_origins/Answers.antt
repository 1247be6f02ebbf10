-- `ask_origins` meets its contract. Assumes nothing.
use Rattle.strength.proofs.VerdictLaws.{origins-then-numbers}
use Rattle.strength.proofs.verdicts.ask_origins.Goals as goal

pub returns : goal.returns
returns c =
    origins-then-numbers c.requires c.origin-x.ensures c.origin-y.ensures c.by_number.ensures
