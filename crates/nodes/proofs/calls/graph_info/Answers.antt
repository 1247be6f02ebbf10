-- `graph_info` meets its contract. Assumes nothing.
use Rattle.std.proofs.lemmas.Result.{err_from_is_err_and}
use mathlib.Core.Path.{◌≡◌}
use Rattle.model.specs.Arena.{count_in}
use Rattle.model.specs.ArenaCalls.{ValidArena}
use Rattle.laws.proofs.ArenaCallLaws.{count-number}
use Rattle.nodes.proofs.QueryLaws.{no-graph, one-graph}
use Rattle.nodes.proofs.calls.graph_info.Goals as goal

pub read_info-requires : goal.read_info-requires
read_info-requires c =
    let opened : ValidArena c.args.arena.now × (c.in_ok-nodes.nodes ≡ count_in c.args.arena.now) =
    count-number _ _ _ c.in_ok-nodes.ensures in
    opened

pub returns : goal.returns
returns c =
    let opened : ValidArena c.args.arena.now × (c.in_ok-nodes.nodes ≡ count_in c.args.arena.now) =
    count-number _ _ _ c.in_ok-nodes.ensures in
    one-graph _ _ opened.0 c.read_info.ensures

pub returns-in_err-nodes : goal.returns-in_err-nodes
returns-in_err-nodes c =
    let p = err_from_is_err_and c.from_residual.result c.from_residual.ensures.1 in
    rw (p.1, p.2) (
    no-graph _ _ c.in_err-nodes.ensures.refused)
