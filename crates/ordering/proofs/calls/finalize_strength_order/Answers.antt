-- `finalize_strength_order` meets its contract: where questions 1 to 3 pass, question 9 is left,
-- and not put where the graph is finalized. Assumes nothing.
use Rattle.std.proofs.lemmas.Result.{err_from_is_err_and}
use mathlib.Core.Path.{sym, ◌∙◌}
use Prim.Native.Nat.{◌<◌}
use borrow.Author.Tests.{not-true, not-false}
use Rattle.model.specs.Arena.{count_in}
use Rattle.model.specs.ArenaCalls.{ValidArena}
use Rattle.laws.proofs.StoredLaws.{bytes-by-place}
use Rattle.validate.proofs.AskingLaws.{some-node}
use Rattle.ordering.proofs.FinalizeLaws.{finalize-refused, finalize-again, no-order, finalize-done}
use Rattle.ordering.proofs.calls.finalize_strength_order.Goals as goal

pub finalized-requires : goal.finalized-requires
finalized-requires c =
    let has-node : let bs = c.args.arena.now in ValidArena bs × (0 < count_in bs) =
    some-node _ (sym c.in_ok-ask_node_zero.ensures) in
    has-node.0.whole

pub returns-then-finalized-eq1 : goal.returns-then-finalized-eq1
returns-then-finalized-eq1 c =
    let has-node : let bs = c.args.arena.now in ValidArena bs × (0 < count_in bs) =
    some-node _ (sym c.in_ok-ask_node_zero.ensures) in
    let bs = c.args.arena.now in
    finalize-again bs has-node.0 has-node.1 (bytes-by-place bs (λ i. (c.slice_known-1.given i).fits))
    (sym c.finalized.ensures ∙ c.if-finalized-eq1.true)

pub order_graph-requires : goal.order_graph-requires
order_graph-requires c =
    let has-node : let bs = c.args.arena.now in ValidArena bs × (0 < count_in bs) =
    some-node _ (sym c.in_ok-ask_node_zero.ensures) in
    has-node

pub returns-then-not-order_graph : goal.returns-then-not-order_graph
returns-then-not-order_graph c =
    let has-node : let bs = c.args.arena.now in ValidArena bs × (0 < count_in bs) =
    some-node _ (sym c.in_ok-ask_node_zero.ensures) in
    no-order _ has-node.0 has-node.1 (λ e. c.if-finalized-eq1.false (c.finalized.ensures ∙ e)) _ _ c.order_graph.ensures (not-true _ c.if-not-order_graph.true-raw)

pub returns : goal.returns
returns c =
    let has-node : let bs = c.args.arena.now in ValidArena bs × (0 < count_in bs) =
    some-node _ (sym c.in_ok-ask_node_zero.ensures) in
    finalize-done _ has-node.0 has-node.1 (λ e. c.if-finalized-eq1.false (c.finalized.ensures ∙ e)) _ _ c.order_graph.ensures (not-false _ c.if-not-order_graph.false-raw)

pub returns-in_err-ask_node_zero : goal.returns-in_err-ask_node_zero
returns-in_err-ask_node_zero c =
    let p = err_from_is_err_and c.from_residual.result c.from_residual.ensures.1 in
    rw (p.1, p.2) (
    finalize-refused _ c.in_err-ask_node_zero.field-0.0 c.in_err-ask_node_zero.ensures)
