-- `implied_over` meets its contract. Assumes nothing.
use Rattle.strength.proofs.verdicts.implied_over.Goals as goal

pub returns : goal.returns
returns c =
    rw (← c.is_implied.ensures, ← c.is_implied-2.ensures) c.by_having.ensures
