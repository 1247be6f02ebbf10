-- `ask` meets its contract: where questions 1 to 3 pass, each test is one of those left, in the
-- order of their numbers. Assumes nothing.
use Rattle.std.proofs.lemmas.Result.{err_from_is_err_and}
use mathlib.Core.Path.{◌≡◌, sym, ◌∙◌}
use mathlib.Core.Bool.{true}
use Prim.Native.Nat.{◌<◌}
use Rattle.model.specs.Arena.{count_in}
use Rattle.model.specs.ArenaCalls.{ValidArena}
use Rattle.model.specs.Path.{well_formed}
use Rattle.validate.proofs.AskingLaws.{some-node}
use Rattle.deepening.proofs.ChildNameLaws.{refused-first, refused-no-path, refused-no-name, refused-no-room, refused_none}
use Rattle.deepening.proofs.calls.ask.Goals as goal

pub returns-then-not-is_well_formed : goal.returns-then-not-is_well_formed
returns-then-not-is_well_formed c =
    let has-node : let bs = c.args.arena.now in ValidArena bs × (0 < count_in bs) =
    some-node _ (sym c.in_ok-ask_node_zero.ensures) in
    let there = has-node in
    refused-no-path _ _ there.0 there.1 (sym c.is_well_formed.ensures ∙ c.if-not-is_well_formed.true)

pub returns-then-name-eq0 : goal.returns-then-name-eq0
returns-then-name-eq0 c =
    let has-node : let bs = c.args.arena.now in ValidArena bs × (0 < count_in bs) =
    some-node _ (sym c.in_ok-ask_node_zero.ensures) in
    let right : well_formed c.args.child.now ≡ true =
    sym c.is_well_formed.ensures ∙ c.if-not-is_well_formed.false in
    let there = has-node in
    refused-no-name _ _ there.0 there.1 right _ c.last_name-name.ensures c.if-name-eq0.true

pub paths_fit-requires : goal.paths_fit-requires
paths_fit-requires c =
    let has-node : let bs = c.args.arena.now in ValidArena bs × (0 < count_in bs) =
    some-node _ (sym c.in_ok-ask_node_zero.ensures) in
    has-node.0

pub returns-then-not-paths_fit : goal.returns-then-not-paths_fit
returns-then-not-paths_fit c =
    let has-node : let bs = c.args.arena.now in ValidArena bs × (0 < count_in bs) =
    some-node _ (sym c.in_ok-ask_node_zero.ensures) in
    let right : well_formed c.args.child.now ≡ true =
    sym c.is_well_formed.ensures ∙ c.if-not-is_well_formed.false in
    let there = has-node in
    refused-no-room _ _ there.0 there.1 right _ c.last_name-name.ensures c.if-name-eq0.false
    (sym c.paths_fit.ensures ∙ c.if-not-paths_fit.true)

pub returns : goal.returns
returns c =
    let has-node : let bs = c.args.arena.now in ValidArena bs × (0 < count_in bs) =
    some-node _ (sym c.in_ok-ask_node_zero.ensures) in
    let right : well_formed c.args.child.now ≡ true =
    sym c.is_well_formed.ensures ∙ c.if-not-is_well_formed.false in
    let there = has-node in
    refused_none _ _ there.0 there.1 right _ c.last_name-name.ensures c.if-name-eq0.false
    (sym c.paths_fit.ensures ∙ c.if-not-paths_fit.false)

pub returns-in_err-ask_node_zero : goal.returns-in_err-ask_node_zero
returns-in_err-ask_node_zero c =
    let p = err_from_is_err_and c.from_residual.result c.from_residual.ensures.1 in
    rw (p.1, p.2) (
    refused-first c.args.child.now c.args.arena.now c.in_err-ask_node_zero.field-0.0 c.in_err-ask_node_zero.ensures)
