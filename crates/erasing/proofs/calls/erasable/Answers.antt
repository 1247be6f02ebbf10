-- `erasable` meets its contract: where questions 1 to 3 pass, the set is written. Assumes nothing.
use Rattle.std.proofs.lemmas.Result.{err_from_is_err_and}
use mathlib.Core.Path.{sym}
use Rattle.erasing.proofs.EraseCallLaws.{set-asked, set-refused, set-done}
use Rattle.erasing.proofs.calls.erasable.Goals as goal

pub erasable-requires : goal.erasable-requires
erasable-requires c =
    let asked = set-asked _ _ (sym c.in_ok-ask.ensures) in
    record { valid_arena = asked.1.0; set_len = asked.0 }

pub returns : goal.returns
returns c =
    set-done _ _ (sym c.in_ok-ask.ensures) _ c.erasable.ensures

pub returns-in_err-ask : goal.returns-in_err-ask
returns-in_err-ask c =
    let p = err_from_is_err_and c.from_residual.result c.from_residual.ensures.1 in
    rw (p.1, p.2) (set-refused _ _ c.in_err-ask.field-0.0 c.in_err-ask.ensures)
