-- `write_listing` meets its contract: question 1 of the buffer, where questions 1 to 3 of the arena
-- pass, question 10, and then the text. Assumes nothing.
use Rattle.std.proofs.lemmas.Result.{err_from_is_err_and}
use mathlib.Core.Path.{◌≡◌, sym, ◌∙◌}
use Prim.Native.Nat.{◌<◌}
use lib.ListN.{length}
use Rattle.model.specs.Arena.{arena_bytes, count_in}
use Rattle.model.specs.ArenaCalls.{ValidArena}
use Rattle.validate.proofs.AskingLaws.{some-node}
use Rattle.listing.proofs.CallLaws.{not-buffer, refused-first, not-ordered, written}
use Rattle.listing.proofs.write_listing.Goals as goal

pub returns-then-out-ne-ARENA_BYTES : goal.returns-then-out-ne-ARENA_BYTES
returns-then-out-ne-ARENA_BYTES c =
    not-buffer _ _ c.if-out-ne-ARENA_BYTES.true

pub ordered-requires : goal.ordered-requires
ordered-requires c =
    let has-node : let bs = c.args.arena.now in ValidArena bs × (0 < count_in bs) =
    some-node _ (sym c.in_ok-ask_node_zero.ensures) in
    has-node.0.whole

pub returns-then-ordered-ne1 : goal.returns-then-ordered-ne1
returns-then-ordered-ne1 c =
    let has-node : let bs = c.args.arena.now in ValidArena bs × (0 < count_in bs) =
    some-node _ (sym c.in_ok-ask_node_zero.ensures) in
    let large : length c.args.out.now ≡ arena_bytes =
    c.if-out-ne-ARENA_BYTES.false in
    not-ordered _ _ large has-node.0 has-node.1 (λ e. c.if-ordered-ne1.true (c.ordered.ensures ∙ e))

pub put_listing-requires : goal.put_listing-requires
put_listing-requires c =
    let has-node : let bs = c.args.arena.now in ValidArena bs × (0 < count_in bs) =
    some-node _ (sym c.in_ok-ask_node_zero.ensures) in
    let large : length c.args.out.now ≡ arena_bytes =
    c.if-out-ne-ARENA_BYTES.false in
    record { opened = has-node.0; ordered = sym c.ordered.ensures ∙ c.if-ordered-ne1.false; large = large }

pub returns : goal.returns
returns c =
    let has-node : let bs = c.args.arena.now in ValidArena bs × (0 < count_in bs) =
    some-node _ (sym c.in_ok-ask_node_zero.ensures) in
    let large : length c.args.out.now ≡ arena_bytes =
    c.if-out-ne-ARENA_BYTES.false in
    written _ _ large has-node.0 has-node.1 (sym c.ordered.ensures ∙ c.if-ordered-ne1.false) _ _ c.put_listing.ensures.put

pub returns-in_err-ask_node_zero : goal.returns-in_err-ask_node_zero
returns-in_err-ask_node_zero c =
    let p = err_from_is_err_and c.from_residual.result c.from_residual.ensures.1 in
    rw (p.1, p.2) (
    refused-first _ _ c.if-out-ne-ARENA_BYTES.false c.in_err-ask_node_zero.field-0.0 c.in_err-ask_node_zero.ensures)
