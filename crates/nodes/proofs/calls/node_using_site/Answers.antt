-- `node_using_site` meets its contract: where questions 1 to 3 pass, question 5 is left. Assumes
-- nothing.
use Rattle.std.proofs.lemmas.Result.{err_from_is_err_and}
use mathlib.Core.Path.{sym, ap, ◌∙◌}
use mathlib.Core.List.{[], ◌∷◌}
use Prim.Native.Nat.{◌<◌}
use borrow.Author.Tests.{not-true, not-false}
use Rattle.model.specs.Path.{well_formed}
use Rattle.model.specs.Node.{optional}
use Rattle.model.specs.Arena.{count_in, decode}
use Rattle.model.specs.Calls.{has_node_zero}
use Rattle.model.specs.Refusals.{ask}
use Rattle.model.specs.ArenaCalls.{ValidArena, ask_arena}
use Rattle.model.specs.declared.Refusal.TheVariants.{Path}
use Rattle.laws.proofs.ArenaCallLaws.{refused-before, found-refused, found-node}
use Rattle.validate.proofs.AskingLaws.{some-node, node-zero-passed}
use Rattle.nodes.proofs.calls.node_using_site.Goals as goal

pub returns-then-not-is_well_formed : goal.returns-then-not-is_well_formed
returns-then-not-is_well_formed c =
    let has-node : let bs = c.args.arena.now in ValidArena bs × (0 < count_in bs) =
    some-node _ (sym c.in_ok-ask_node_zero.ensures) in
    found-refused _ _ Path
    (sym (node-zero-passed c.args.arena.now (ask 5 (well_formed c.args.path.now) ∷ []) has-node.0 has-node.1
    ∙ rw (sym c.is_well_formed.ensures ∙ not-true _ c.if-not-is_well_formed.true-raw)))

pub count-requires : goal.count-requires
count-requires c =
    let has-node : let bs = c.args.arena.now in ValidArena bs × (0 < count_in bs) =
    some-node _ (sym c.in_ok-ask_node_zero.ensures) in
    has-node.0.whole

pub lowest-found-requires : goal.lowest-found-requires
lowest-found-requires c =
    let has-node : let bs = c.args.arena.now in ValidArena bs × (0 < count_in bs) =
    some-node _ (sym c.in_ok-ask_node_zero.ensures) in
    (has-node.0, c.count.ensures)

pub returns : goal.returns
returns c =
    let has-node : let bs = c.args.arena.now in ValidArena bs × (0 < count_in bs) =
    some-node _ (sym c.in_ok-ask_node_zero.ensures) in
    found-node _ _ _
    (node-zero-passed c.args.arena.now (ask 5 (well_formed c.args.path.now) ∷ []) has-node.0 has-node.1
    ∙ rw (sym c.is_well_formed.ensures ∙ not-false _ c.if-not-is_well_formed.false-raw))
    (c.from_number.ensures ∙ ap optional c.lowest-found.ensures)

pub returns-in_err-ask_node_zero : goal.returns-in_err-ask_node_zero
returns-in_err-ask_node_zero c =
    let p = err_from_is_err_and c.from_residual.result c.from_residual.ensures.1 in
    rw (p.1, p.2) (
    let bs = c.args.arena.now in
    found-refused _ _ c.in_err-ask_node_zero.field-0.0
    (refused-before c.in_err-ask_node_zero.field-0.0 (ask_arena bs (has_node_zero (decode bs) ∷ [])) (ask 5 (well_formed c.args.path.now) ∷ [])
    c.in_err-ask_node_zero.ensures))
