-- `both_specialize` meets its contract. Assumes nothing.
use Rattle.strength.proofs.lines.both_specialize.Goals as goal

pub returns-then-has_specializes : goal.returns-then-has_specializes
returns-then-has_specializes c =
    rw (← c.has_specializes.ensures, c.if-has_specializes.true) c.has_specializes-then-has_specializes.ensures

pub returns : goal.returns
returns c =
    rw (← c.has_specializes.ensures, c.if-has_specializes.false)
