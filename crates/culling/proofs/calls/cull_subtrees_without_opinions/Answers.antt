-- `cull_subtrees_without_opinions` meets its contract: where questions 1 to 3 pass, every node is
-- culled that can be. Assumes nothing.
use Rattle.std.proofs.lemmas.Result.{err_from_is_err_and}
use mathlib.Core.Path.{sym}
use mathlib.Core.List.{[], ◌∷◌}
use Rattle.model.specs.Calls.{has_node_zero}
use Rattle.model.specs.Arena.{decode}
use Rattle.laws.proofs.ArenaCallLaws.{passed-opened}
use Rattle.culling.proofs.CullCallLaws.{cull-refused, cull-done}
use Rattle.culling.proofs.calls.cull_subtrees_without_opinions.Goals as goal

pub cull-requires : goal.cull-requires
cull-requires c =
    passed-opened _ (has_node_zero (decode c.args.arena.now) ∷ []) (sym c.in_ok-ask_node_zero.ensures)

pub returns : goal.returns
returns c =
    cull-done _ (sym c.in_ok-ask_node_zero.ensures) _ c.cull.ensures

pub returns-in_err-ask_node_zero : goal.returns-in_err-ask_node_zero
returns-in_err-ask_node_zero c =
    let p = err_from_is_err_and c.from_residual.result c.from_residual.ensures.1 in
    rw (p.1, p.2) (
    cull-refused _ c.in_err-ask_node_zero.field-0.0 c.in_err-ask_node_zero.ensures)
