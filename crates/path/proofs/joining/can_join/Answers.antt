-- `joining::can_join` meets its contract: the tests are the definition's, in its order. Assumes
-- nothing.
use mathlib.Core.Path.{◌∙◌, sym, ap}
use borrow.Author.Tests.{not-true, not-false}
use Prim.Native.Nat.{ℕ}
use mathlib.Core.List.{List}
use lib.Dec.{ltb}
use lib.ListN.{length}
use Rattle.model.specs.Path.{ends_in_name}
use Rattle.path.proofs.joining.can_join.Goals as goal

pub returns-then-not-is_well_formed : goal.returns-then-not-is_well_formed
returns-then-not-is_well_formed c =
    rw (sym c.is_well_formed.ensures ∙ not-true _ c.if-not-is_well_formed.true-raw)

pub returns-then-not-is_well_formed-2 : goal.returns-then-not-is_well_formed-2
returns-then-not-is_well_formed-2 c =
    rw (sym c.is_well_formed.ensures ∙ not-false _ c.if-not-is_well_formed.false-raw, sym c.is_well_formed-2.ensures ∙ not-true _ c.if-not-is_well_formed-2.true-raw)

pub returns : goal.returns
unfolding ends_in_name
returns c =
    rw (sym c.is_well_formed.ensures ∙ not-false _ c.if-not-is_well_formed.false-raw, sym c.is_well_formed-2.ensures ∙ not-false _ c.if-not-is_well_formed-2.false-raw)
    (ap (λ (l : List ℕ). ltb 0 (length l)) c.last_name-name.ensures)
