-- `node` meets its contract. Assumes nothing.
use Rattle.std.proofs.lemmas.Result.{err_from_is_err_and}
use mathlib.Core.Path.{sym}
use Rattle.model.specs.ArenaCalls.{ValidNode}
use Rattle.nodes.proofs.QueryLaws.{no_node, one-node}
use Rattle.arena.proofs.ReadNodes.{readable, has-slot}
use Rattle.nodes.proofs.ReadableLaws.{shown}
use Rattle.nodes.proofs.calls.node.Goals as goal

pub load_node-requires : goal.load_node-requires
load_node-requires c =
    let reads-it : ValidNode c.args.arena.now c.args.n =
    readable _ _ (sym c.in_ok-ask_node.ensures) in
    has-slot _ _ reads-it

pub returns : goal.returns
returns c =
    let reads-it : ValidNode c.args.arena.now c.args.n =
    readable _ _ (sym c.in_ok-ask_node.ensures) in
    one-node _ _ _ (sym c.in_ok-ask_node.ensures) (shown _ _ reads-it _ c.load_node.ensures)

pub returns-in_err-ask_node : goal.returns-in_err-ask_node
returns-in_err-ask_node c =
    let p = err_from_is_err_and c.from_residual.result c.from_residual.ensures.1 in
    rw (p.1, p.2) (
    no_node _ _ _ c.in_err-ask_node.ensures)
