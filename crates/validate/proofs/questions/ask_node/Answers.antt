-- `ask_node` meets its contract: where the graph has a node, question 4 is left. Assumes nothing.
use Rattle.std.proofs.lemmas.Result.{err_from_is_err_and}
use mathlib.Core.Path.{sym, ap, ◌∙◌}
use mathlib.Core.List.{[], ◌∷◌}
use Prim.Native.Nat.{ℕ, ◌<◌}
use lib.Dec.{ltb}
use Rattle.model.specs.Arena.{count_in, decode}
use Rattle.model.specs.Graph.{size}
use Rattle.model.specs.Calls.{has_node_zero}
use Rattle.model.specs.Refusals.{ask, refusal}
use Rattle.model.specs.ArenaCalls.{ValidArena, ask_arena}
use Rattle.laws.proofs.ArenaCallLaws.{refused-before}
use Rattle.arena.proofs.ReadNodes.{sizes}
use Rattle.validate.proofs.AskingLaws.{some-node, node-zero-passed}
use Rattle.validate.proofs.questions.ask_node.Goals as goal

pub ask_number-requires : goal.ask_number-requires
ask_number-requires c =
    let has-node : let bs = c.args.arena.now in ValidArena bs × (0 < count_in bs) =
    some-node _ (sym c.in_ok-ask_node_zero.ensures) in
    has-node.0

pub returns : goal.returns
returns c =
    let has-node : let bs = c.args.arena.now in ValidArena bs × (0 < count_in bs) =
    some-node _ (sym c.in_ok-ask_node_zero.ensures) in
    let bs = c.args.arena.now in
    let there = has-node in
    c.ask_number.ensures ∙ ap (λ (k : ℕ). refusal (ask 4 (ltb c.args.n k) ∷ [])) (sym (sizes bs there.0))
    ∙ sym (node-zero-passed bs (ask 4 (ltb c.args.n (size (decode bs))) ∷ []) there.0 there.1)

pub returns-in_err-ask_node_zero : goal.returns-in_err-ask_node_zero
returns-in_err-ask_node_zero c =
    let p = err_from_is_err_and c.from_residual.result c.from_residual.ensures.1 in
    rw (p.1, p.2) (
    let g = decode c.args.arena.now in
    refused-before c.in_err-ask_node_zero.field-0.0 (ask_arena c.args.arena.now (has_node_zero g ∷ [])) (ask 4 (ltb c.args.n (size g)) ∷ [])
    c.in_err-ask_node_zero.ensures)
