-- `settle` meets its contract: the ranks settle it, or the plain lines may. Assumes nothing.
use mathlib.Core.Path.{sym, ◌∙◌}
use Rattle.strength.proofs.lines.settle.Goals as goal

pub returns-then-both_specialize : goal.returns-then-both_specialize
returns-then-both_specialize c =
    c.in-None.ensures

pub settle_plain-requires : goal.settle_plain-requires
settle_plain-requires c =
    record { pair = (c.requires, c.in-None.ensures); b_value = sym c.both_specialize.ensures ∙ c.if-both_specialize.false }

pub returns-in-Some : goal.returns-in-Some
returns-in-Some c =
    c.in-Some.ensures
