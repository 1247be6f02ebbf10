-- `order_entry` meets its contract: where the place is that of a node, question 10 is left. Assumes
-- nothing.
use Rattle.std.proofs.lemmas.Result.{err_from_is_err_and}
use mathlib.Core.Path.{sym, ◌∙◌}
use mathlib.Core.List.{[], ◌∷◌}
use borrow.Author.Tests.{not-true, not-false}
use Rattle.model.specs.Arena.{decode}
use Rattle.model.specs.ArenaCalls.{ValidNode, ask_arena}
use Rattle.model.specs.Calls.{reads_node}
use Rattle.model.specs.Refusals.{ask}
use Rattle.model.specs.declared.Refusal.TheVariants.{NotOrdered}
use Rattle.laws.proofs.ArenaCallLaws.{refused-before, answered-refused, answered-number}
use Rattle.arena.proofs.ReadNodes.{readable, has-slot}
use Rattle.ordering.proofs.OrderEntries.{entry_read}
use Rattle.ordering.proofs.OrderCallLaws.{entry-left}
use Rattle.ordering.proofs.calls.order_entry.Goals as goal

pub is_ordered-requires : goal.is_ordered-requires
is_ordered-requires c =
    let reads-it : ValidNode c.args.arena.now c.args.place =
    readable _ _ (sym c.in_ok-ask_node.ensures) in
    reads-it.opened.whole

pub returns-then-not-is_ordered : goal.returns-then-not-is_ordered
returns-then-not-is_ordered c =
    let reads-it : ValidNode c.args.arena.now c.args.place =
    readable _ _ (sym c.in_ok-ask_node.ensures) in
    answered-refused _ _ NotOrdered
    (sym (entry-left c.args.arena.now c.args.place reads-it ∙ rw (sym c.is_ordered.ensures ∙ not-true _ c.if-not-is_ordered.true-raw)))

pub order_entry-requires : goal.order_entry-requires
order_entry-requires c =
    let reads-it : ValidNode c.args.arena.now c.args.place =
    readable _ _ (sym c.in_ok-ask_node.ensures) in
    has-slot _ _ reads-it

pub returns : goal.returns
returns c =
    let reads-it : ValidNode c.args.arena.now c.args.place =
    readable _ _ (sym c.in_ok-ask_node.ensures) in
    let place = reads-it in
    let marked = sym c.is_ordered.ensures ∙ not-false _ c.if-not-is_ordered.false-raw in
    answered-number _ _ _ (entry-left c.args.arena.now c.args.place place ∙ rw marked)
    (c.order_entry.ensures ∙ sym (entry_read c.args.arena.now marked c.args.place place.below))

pub returns-in_err-ask_node : goal.returns-in_err-ask_node
returns-in_err-ask_node c =
    let p = err_from_is_err_and c.from_residual.result c.from_residual.ensures.1 in
    rw (p.1, p.2) (
    let g = decode c.args.arena.now in
    answered-refused _ _ c.in_err-ask_node.field-0.0
    (refused-before c.in_err-ask_node.field-0.0 (ask_arena c.args.arena.now (reads_node g c.args.place)) (ask 10 g.ordered ∷ [])
    c.in_err-ask_node.ensures))
