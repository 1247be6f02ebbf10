-- `is_due_to_ancestor` meets its contract. Assumes nothing.
use Rattle.std.proofs.lemmas.Result.{err_from_is_err_and}
use mathlib.Core.Path.{sym, ap}
use Prim.Native.Nat.{ℕ}
use lib.Dec.{ltb}
use Rattle.model.specs.ArenaCalls.{ValidNode}
use Rattle.model.specs.Lists.{bit}
use Rattle.laws.proofs.ArenaCallLaws.{answered-refused, answered-number}
use Rattle.arena.proofs.ReadNodes.{readable}
use Rattle.nodes.proofs.calls.is_due_to_ancestor.Goals as goal

pub depth_below-requires : goal.depth_below-requires
depth_below-requires c =
    let reads-it : ValidNode c.args.arena.now c.args.n =
    readable _ _ (sym c.in_ok-ask_node.ensures) in
    reads-it

pub returns : goal.returns
returns c =
    answered-number _ _ _ (sym c.in_ok-ask_node.ensures)
    (ap (λ (d : ℕ). bit (ltb 0 d)) c.depth_below.ensures.0)

pub returns-in_err-ask_node : goal.returns-in_err-ask_node
returns-in_err-ask_node c =
    let p = err_from_is_err_and c.from_residual.result c.from_residual.ensures.1 in
    rw (p.1, p.2) (
    answered-refused _ _ c.in_err-ask_node.field-0.0 c.in_err-ask_node.ensures)
