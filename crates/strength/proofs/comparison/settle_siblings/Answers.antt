-- `settle_siblings` meets its contract: two siblings are settled at once, or compared in the cycle.
-- Assumes nothing.
use Rattle.strength.proofs.comparison.settle_siblings.Goals as goal

pub compare_siblings-requires : goal.compare_siblings-requires
compare_siblings-requires c =
    (c.requires, c.in-None.ensures)

pub returns-in-Some : goal.returns-in-Some
returns-in-Some c =
    c.in-Some.ensures
