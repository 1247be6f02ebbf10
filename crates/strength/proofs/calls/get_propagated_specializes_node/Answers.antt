-- `get_propagated_specializes_node` meets its contract. Assumes nothing.
use Rattle.std.proofs.lemmas.Result.{err_from_is_err_and}
use mathlib.Core.Path.{sym, ap, ◌∙◌}
use Rattle.model.specs.Node.{optional}
use Rattle.model.specs.ArenaCalls.{ValidNode}
use Rattle.laws.proofs.ArenaCallLaws.{found-refused, found-node}
use Rattle.arena.proofs.ReadNodes.{readable}
use Rattle.strength.proofs.calls.get_propagated_specializes_node.Goals as goal

pub local_root-root-requires : goal.local_root-root-requires
local_root-root-requires c =
    let reads-it : ValidNode c.args.arena.now c.args.n =
    readable _ _ (sym c.in_ok-ask_node.ensures) in
    reads-it.opened.whole

pub find_copy-found-requires : goal.find_copy-found-requires
find_copy-found-requires c =
    let reads-it : ValidNode c.args.arena.now c.args.n =
    readable _ _ (sym c.in_ok-ask_node.ensures) in
    record { readable = reads-it; root-read = c.local_root-root.ensures }

pub returns : goal.returns
returns c =
    found-node _ _ _ (sym c.in_ok-ask_node.ensures)
    (c.from_number.ensures ∙ ap optional c.find_copy-found.ensures)

pub returns-in_err-ask_node : goal.returns-in_err-ask_node
returns-in_err-ask_node c =
    let p = err_from_is_err_and c.from_residual.result c.from_residual.ensures.1 in
    rw (p.1, p.2) (
    found-refused _ _ c.in_err-ask_node.field-0.0 c.in_err-ask_node.ensures)
