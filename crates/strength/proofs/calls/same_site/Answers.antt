-- `same_site` meets its contract. Assumes nothing.
use Rattle.std.proofs.lemmas.Result.{err_from_is_err_and}
use mathlib.Core.Path.{sym, ap}
use Rattle.model.specs.Lists.{bit}
use Rattle.model.specs.ArenaCalls.{ValidNode}
use Rattle.laws.proofs.ArenaCallLaws.{answered-refused, answered-number}
use Rattle.validate.proofs.AskingLaws.{both-readable}
use Rattle.strength.proofs.calls.same_site.Goals as goal

pub same_site-requires : goal.same_site-requires
same_site-requires c =
    let reads_both : ValidNode c.args.arena.now c.args.a × ValidNode c.args.arena.now c.args.b =
    both-readable _ _ _ (sym c.in_ok-ask_nodes.ensures) in
    reads_both

pub returns : goal.returns
returns c =
    answered-number _ _ _ (sym c.in_ok-ask_nodes.ensures)
    (ap bit c.same_site.ensures)

pub returns-in_err-ask_nodes : goal.returns-in_err-ask_nodes
returns-in_err-ask_nodes c =
    let p = err_from_is_err_and c.from_residual.result c.from_residual.ensures.1 in
    rw (p.1, p.2) (
    answered-refused _ _ c.in_err-ask_nodes.field-0.0 c.in_err-ask_nodes.ensures)
