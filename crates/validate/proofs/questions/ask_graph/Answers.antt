-- `ask_graph` meets its contract: each test is one question. Assumes nothing.
use mathlib.Core.Path.{sym, ◌∙◌}
use mathlib.Core.List.{[]}
use lib.ListN.{length}
use borrow.Author.Tests.{eq-eqb, ne_eqb, not-true, not-false}
use Rattle.model.specs.Arena.{arena_bytes}
use Rattle.laws.proofs.ArenaCallLaws.{not-arena, not-graph, asked-on}
use Rattle.validate.proofs.questions.ask_graph.Goals as goal

pub returns-then-arena-ne-ARENA_BYTES : goal.returns-then-arena-ne-ARENA_BYTES
returns-then-arena-ne-ARENA_BYTES c =
    let bs = c.args.arena.now in
    sym (not-arena bs [] (ne_eqb (length bs) arena_bytes c.if-arena-ne-ARENA_BYTES.true))

pub is_graph-requires : goal.is_graph-requires
is_graph-requires c =
    c.if-arena-ne-ARENA_BYTES.false

pub returns-then-not-is_graph : goal.returns-then-not-is_graph
returns-then-not-is_graph c =
    let bs = c.args.arena.now in
    sym (not-graph bs [] (eq-eqb (length bs) arena_bytes c.if-arena-ne-ARENA_BYTES.false) (sym c.is_graph.ensures ∙ not-true _ c.if-not-is_graph.true-raw))

pub returns : goal.returns
returns c =
    let bs = c.args.arena.now in
    sym (asked-on bs [] (record { whole = c.if-arena-ne-ARENA_BYTES.false; holds = sym c.is_graph.ensures ∙ not-false _ c.if-not-is_graph.false-raw }))
