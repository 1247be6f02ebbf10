-- `compare_sibling_node_strength` meets its contract. Assumes nothing.
use Rattle.std.proofs.lemmas.Result.{err_from_is_err_and}
use mathlib.Core.Path.{sym, ap}
use Rattle.model.specs.Answers.{ordering_number}
use Rattle.laws.proofs.ArenaCallLaws.{answered-refused, answered-number}
use Rattle.strength.proofs.SiblingLaws.{siblings-known}
use Rattle.strength.proofs.calls.compare_sibling_node_strength.Goals as goal

pub compare_siblings-requires : goal.compare_siblings-requires
compare_siblings-requires c =
    siblings-known _ _ _ (sym c.in_ok-ask_siblings.ensures)

pub returns : goal.returns
returns c =
    answered-number _ _ _ (sym c.in_ok-ask_siblings.ensures)
    (ap ordering_number c.compare_siblings.ensures)

pub returns-in_err-ask_siblings : goal.returns-in_err-ask_siblings
returns-in_err-ask_siblings c =
    let p = err_from_is_err_and c.from_residual.result c.from_residual.ensures.1 in
    rw (p.1, p.2) (
    answered-refused _ _ c.in_err-ask_siblings.field-0.0 c.in_err-ask_siblings.ensures)
