-- `strength_order` meets its contract: question 1 of the buffer, and where questions 1 to 3 of the
-- arena pass, question 10 is left. Assumes nothing.
use Rattle.std.proofs.lemmas.Result.{err_from_is_err_and}
use mathlib.Core.Path.{◌≡◌, sym, ◌∙◌}
use Prim.Native.Nat.{◌<◌}
use lib.ListN.{length}
use borrow.Author.Tests.{not-true, not-false}
use Rattle.model.specs.Arena.{count_in}
use Rattle.model.specs.ArenaCalls.{ValidArena}
use Rattle.validate.proofs.AskingLaws.{some-node}
use Rattle.ordering.proofs.OrderCallLaws.{list-not-buffer, list-refused, list-not-ordered, list_done}
use Rattle.ordering.proofs.calls.strength_order.Goals as goal

pub returns-then-out-ne-ORDER_BYTES : goal.returns-then-out-ne-ORDER_BYTES
returns-then-out-ne-ORDER_BYTES c =
    list-not-buffer _ _ c.if-out-ne-ORDER_BYTES.true

pub is_ordered-requires : goal.is_ordered-requires
is_ordered-requires c =
    let has-node : let bs = c.args.arena.now in ValidArena bs × (0 < count_in bs) =
    some-node _ (sym c.in_ok-ask_node_zero.ensures) in
    has-node.0.whole

pub returns-then-not-is_ordered : goal.returns-then-not-is_ordered
returns-then-not-is_ordered c =
    let has-node : let bs = c.args.arena.now in ValidArena bs × (0 < count_in bs) =
    some-node _ (sym c.in_ok-ask_node_zero.ensures) in
    let large : length c.args.out.now ≡ 4096 =
    c.if-out-ne-ORDER_BYTES.false in
    list-not-ordered _ _ large has-node.0 has-node.1 (sym c.is_ordered.ensures ∙ not-true _ c.if-not-is_ordered.true-raw)

pub count-count-requires : goal.count-count-requires
count-count-requires c =
    let has-node : let bs = c.args.arena.now in ValidArena bs × (0 < count_in bs) =
    some-node _ (sym c.in_ok-ask_node_zero.ensures) in
    has-node.0.whole

pub write_entries-requires : goal.write_entries-requires
write_entries-requires c =
    let has-node : let bs = c.args.arena.now in ValidArena bs × (0 < count_in bs) =
    some-node _ (sym c.in_ok-ask_node_zero.ensures) in
    let large : length c.args.out.now ≡ 4096 =
    c.if-out-ne-ORDER_BYTES.false in
    (has-node.0, c.count-count.ensures, large)

pub returns : goal.returns
returns c =
    let has-node : let bs = c.args.arena.now in ValidArena bs × (0 < count_in bs) =
    some-node _ (sym c.in_ok-ask_node_zero.ensures) in
    let large : length c.args.out.now ≡ 4096 =
    c.if-out-ne-ORDER_BYTES.false in
    list_done _ _ large has-node.0 has-node.1 (sym c.is_ordered.ensures ∙ not-false _ c.if-not-is_ordered.false-raw) _ _
    c.count-count.ensures c.write_entries.ensures

pub returns-in_err-ask_node_zero : goal.returns-in_err-ask_node_zero
returns-in_err-ask_node_zero c =
    let p = err_from_is_err_and c.from_residual.result c.from_residual.ensures.1 in
    rw (p.1, p.2) (
    list-refused _ _ c.if-out-ne-ORDER_BYTES.false c.in_err-ask_node_zero.field-0.0 c.in_err-ask_node_zero.ensures)
