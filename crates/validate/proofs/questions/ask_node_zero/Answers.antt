-- `ask_node_zero` meets its contract: where the arena holds a graph, question 3 is left. Assumes
-- nothing.
use Rattle.std.proofs.lemmas.Result.{err_from_is_err_and}
use mathlib.Core.Path.{sym, ◌∙◌}
use mathlib.Core.List.{[], ◌∷◌}
use native.Mathlib.Omega.{arith}
use Rattle.model.specs.Arena.{decode}
use Rattle.model.specs.Calls.{has_node_zero}
use Rattle.model.specs.ArenaCalls.{ValidArena, ask_arena}
use Rattle.laws.proofs.ArenaCallLaws.{refused-before, passed-opened, asked-on}
use Rattle.arena.proofs.ReadNodes.{no_node}
use Rattle.validate.proofs.AskingLaws.{node-zero-passed}
use Rattle.validate.proofs.questions.ask_node_zero.Goals as goal

pub count-requires : goal.count-requires
count-requires c =
    let opened : ValidArena c.args.arena.now =
    passed-opened _ [] (sym c.in_ok-ask_graph.ensures) in
    opened.whole

pub returns-then-count-eq0 : goal.returns-then-count-eq0
returns-then-count-eq0 c =
    let opened : ValidArena c.args.arena.now =
    passed-opened _ [] (sym c.in_ok-ask_graph.ensures) in
    let bs = c.args.arena.now in
    sym (asked-on bs (has_node_zero (decode bs) ∷ []) opened ∙ rw (no_node bs opened (sym c.count.ensures ∙ c.if-count-eq0.true)))

pub returns : goal.returns
returns c =
    let opened : ValidArena c.args.arena.now =
    passed-opened _ [] (sym c.in_ok-ask_graph.ensures) in
    sym (node-zero-passed _ [] opened (omega (arith, c.count.ensures, c.if-count-eq0.false)))

pub returns-in_err-ask_graph : goal.returns-in_err-ask_graph
returns-in_err-ask_graph c =
    let p = err_from_is_err_and c.from_residual.result c.from_residual.ensures.1 in
    rw (p.1, p.2) (
    let bs = c.args.arena.now in
    refused-before c.in_err-ask_graph.field-0.0 (ask_arena bs []) (has_node_zero (decode bs) ∷ [])
    c.in_err-ask_graph.ensures)
