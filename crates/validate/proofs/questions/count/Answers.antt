-- `count` meets its contract: questions 1 and 2, and then the header. Assumes nothing.
use Rattle.std.proofs.lemmas.Result.{err_from_is_err_and}
use mathlib.Core.Path.{◌≡◌, sym}
use mathlib.Core.List.{[]}
use Rattle.model.specs.Refusals.{refusal}
use Rattle.model.specs.ArenaCalls.{ask_arena}
use Rattle.laws.proofs.ArenaCallLaws.{answered-refused, answered-number, passed-opened}
use Rattle.validate.proofs.questions.count.Goals as goal

pub count-requires : goal.count-requires
count-requires c =
    let passes : refusal (ask_arena c.args.arena.now []) ≡ 0 =
    sym c.in_ok-ask_graph.ensures in
    (passed-opened c.args.arena.now [] passes).whole

pub returns : goal.returns
returns c =
    let passes : refusal (ask_arena c.args.arena.now []) ≡ 0 =
    sym c.in_ok-ask_graph.ensures in
    answered-number _ _ _ passes c.count.ensures

pub returns-in_err-ask_graph : goal.returns-in_err-ask_graph
returns-in_err-ask_graph c =
    let p = err_from_is_err_and c.from_residual.result c.from_residual.ensures.1 in
    rw (p.1, p.2) (
    answered-refused _ _ c.in_err-ask_graph.field-0.0 c.in_err-ask_graph.ensures)
