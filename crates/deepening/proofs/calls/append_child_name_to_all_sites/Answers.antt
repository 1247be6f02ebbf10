-- `append_child_name_to_all_sites` meets its contract: where no question refuses, the name is
-- appended. Assumes nothing.
use Rattle.std.proofs.lemmas.Result.{err_from_is_err_and}
use mathlib.Core.Path.{◌≡◌}
use Rattle.model.specs.Refusals.{refusal}
use Rattle.deepening.proofs.ChildNameLaws.{asked, can-deepen, deepen-refused, deepen-done}
use Rattle.deepening.proofs.calls.append_child_name_to_all_sites.Goals as goal

pub append_name_to_all_sites-requires : goal.append_name_to_all_sites-requires
append_name_to_all_sites-requires c =
    let passes : 0 ≡ refusal (asked c.args.child.now c.args.arena.now) =
    rw c.in_ok-ask.was at c.ask.ensures in
    can-deepen _ _ passes _ c.last_name.ensures

pub returns : goal.returns
returns c =
    let passes : 0 ≡ refusal (asked c.args.child.now c.args.arena.now) =
    rw c.in_ok-ask.was at c.ask.ensures in
    deepen-done _ _ passes _ c.last_name.ensures _ c.append_name_to_all_sites.ensures

pub returns-in_err-ask : goal.returns-in_err-ask
returns-in_err-ask c =
    let p = err_from_is_err_and c.from_residual.result c.from_residual.ensures.1 in
    rw (p.1, p.2) (
    deepen-refused _ _ c.in_err-ask.field-0.0 c.in_err-ask.ensures)
