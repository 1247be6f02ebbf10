-- `erase` meets its contract: where questions 1 to 3 pass, question 11 is left. Assumes nothing.
use Rattle.std.proofs.lemmas.Result.{err_from_is_err_and}
use mathlib.Core.Path.{sym, ◌∙◌}
use Rattle.erasing.proofs.EraseCallLaws.{set-asked, erase-refused, erase-not-accepted, erase-done}
use Rattle.erasing.proofs.calls.erase.Goals as goal

pub can_erase-requires : goal.can_erase-requires
can_erase-requires c =
    let asked = set-asked _ _ (sym c.in_ok-ask.ensures) in
    record { valid_arena = asked.1.0; set_len = asked.0 }

pub returns-then-not-can_erase : goal.returns-then-not-can_erase
returns-then-not-can_erase c =
    let asked = set-asked _ _ (sym c.in_ok-ask.ensures) in
    erase-not-accepted _ _ asked.0 asked.1.0 asked.1.1 (sym c.can_erase.ensures ∙ c.if-not-can_erase.true)

pub erase-requires : goal.erase-requires
erase-requires c =
    let asked = set-asked _ _ (sym c.in_ok-ask.ensures) in
    record { valid_arena = asked.1; set_len = (asked.0, sym c.can_erase.ensures ∙ c.if-not-can_erase.false) }

pub returns : goal.returns
returns c =
    let asked = set-asked _ _ (sym c.in_ok-ask.ensures) in
    erase-done _ _ asked.0 asked.1.0 asked.1.1 (sym c.can_erase.ensures ∙ c.if-not-can_erase.false) _ _ c.erase.ensures

pub returns-in_err-ask : goal.returns-in_err-ask
returns-in_err-ask c =
    let p = err_from_is_err_and c.from_residual.result c.from_residual.ensures.1 in
    rw (p.1, p.2) (erase-refused _ _ c.in_err-ask.field-0.0 c.in_err-ask.ensures)
