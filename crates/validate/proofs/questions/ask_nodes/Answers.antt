-- `ask_nodes` meets its contract: where the first node passes, question 4 of the second is left.
-- Assumes nothing.
use Rattle.std.proofs.lemmas.Result.{err_from_is_err_and}
use mathlib.Core.Path.{sym, ◌∙◌}
use Rattle.model.specs.ArenaCalls.{ValidNode}
use Rattle.arena.proofs.ReadNodes.{readable}
use Rattle.validate.proofs.AskingLaws.{number-left, refused-first}
use Rattle.validate.proofs.questions.ask_nodes.Goals as goal

pub ask_number-requires : goal.ask_number-requires
ask_number-requires c =
    let reads-it : ValidNode c.args.arena.now c.args.a =
    readable _ _ (sym c.in_ok-ask_node.ensures) in
    reads-it.opened

pub returns : goal.returns
returns c =
    let reads-it : ValidNode c.args.arena.now c.args.a =
    readable _ _ (sym c.in_ok-ask_node.ensures) in
    c.ask_number.ensures ∙ sym (number-left c.args.arena.now c.args.a c.args.b reads-it)

pub returns-in_err-ask_node : goal.returns-in_err-ask_node
returns-in_err-ask_node c =
    let p = err_from_is_err_and c.from_residual.result c.from_residual.ensures.1 in
    rw (p.1, p.2) (
    refused-first c.args.arena.now c.args.a c.args.b c.in_err-ask_node.field-0.0 c.in_err-ask_node.ensures)
