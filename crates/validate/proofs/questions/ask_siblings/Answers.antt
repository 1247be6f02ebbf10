-- `ask_siblings` meets its contract: where both nodes pass, question 8 is left. Assumes nothing.
use Rattle.std.proofs.lemmas.Result.{err_from_is_err_and}
use mathlib.Core.Path.{sym, ◌∙◌}
use mathlib.Core.List.{[], ◌∷◌}
use Rattle.model.specs.Refusals.{ask}
use Rattle.model.specs.Calls.{compares_nodes}
use Rattle.model.specs.Arena.{decode}
use Rattle.model.specs.ArenaCalls.{ValidNode, ask_arena}
use Rattle.laws.proofs.ArenaCallLaws.{refused-before}
use Rattle.validate.proofs.AskingLaws.{has_one_parent, both-readable, parents-left}
use Rattle.validate.proofs.questions.ask_siblings.Goals as goal

pub ask_parents-requires : goal.ask_parents-requires
ask_parents-requires c =
    let reads_both : ValidNode c.args.arena.now c.args.a × ValidNode c.args.arena.now c.args.b =
    both-readable _ _ _ (sym c.in_ok-ask_nodes.ensures) in
    reads_both

pub returns : goal.returns
returns c =
    let reads_both : ValidNode c.args.arena.now c.args.a × ValidNode c.args.arena.now c.args.b =
    both-readable _ _ _ (sym c.in_ok-ask_nodes.ensures) in
    let both = reads_both in
    c.ask_parents.ensures ∙ sym (parents-left c.args.arena.now c.args.a c.args.b both.0 both.1)

pub returns-in_err-ask_nodes : goal.returns-in_err-ask_nodes
returns-in_err-ask_nodes c =
    let p = err_from_is_err_and c.from_residual.result c.from_residual.ensures.1 in
    rw (p.1, p.2) (
    let bs = c.args.arena.now in
    refused-before c.in_err-ask_nodes.field-0.0 (ask_arena bs (compares_nodes (decode bs) c.args.a c.args.b)) (ask 8 (has_one_parent bs c.args.a c.args.b) ∷ [])
    c.in_err-ask_nodes.ensures)
