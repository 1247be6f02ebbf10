-- `by_sibling` meets its contract. Assumes nothing.
use Rattle.strength.proofs.VerdictNumbers.{read-smaller}
use Rattle.strength.proofs.verdicts.by_sibling.Goals as goal

pub returns : goal.returns
returns c =
    let siblings = read-smaller c.sibling-x.ensures c.sibling-y.ensures c.by_number.ensures in
    rw (← siblings, ← c.by_number-2.ensures) c.then.ensures
