-- The first pair that is refused is what refuses all.
use mathlib.Core.Path.{◌≡◌, sym, ap, ◌∙◌}
use Prim.Native.Nat.{◌/◌}
use lib.ListN.{length}
use Rattle.std.proofs.Common.{Result, Ok, Err, IsErrAnd}
use Rattle.laws.proofs.ArenaCallLaws.{refusal-some}
use Rattle.model.specs.declared.Refusal.{Refusal}
use Rattle.model.specs.Refusals.{refusal_number}
use Rattle.model.specs.Answers.{answer_refusal}
use Rattle.bench_api.specs.Pairs.{pair_refused}
use Rattle.bench_api.proofs.PairLaws.{one-more-asked, refusal-stays}
use Rattle.bench_api.proofs.sums.ask_pairs.Goals as goal

-- an error that `?` hands on
handed-on : (r : Result (Unit {0}) Refusal) (e : Refusal) → IsErrAnd r (λ x. x ≡ e) → answer_refusal r ≡ refusal_number e
handed-on (Ok _) e h = absurd h
handed-on (Err x) e h = ap refusal_number h

pub returns-in_err-ask_pair : goal.returns-in_err-ask_pair
returns-in_err-ask_pair c =
    let refused = pair_refused c.args.siblings c.args.arena.now in
    let ps = c.args.pairs.now in
    let i = c.loop-i.i in
    let answer : answer_refusal c.from_residual.result ≡ refused c.pair-a.result.0 c.pair-a.result.1 = handed-on _ _ c.from_residual.ensures.1 ∙ c.in_err-ask_pair.ensures in
    refusal-stays refused ps (length ps / 8) i
    (one-more-asked refused ps i c.loop-i.invariant c.pair-a.ensures.first c.pair-a.ensures.second answer)
    (λ z. refusal-some _ (sym (handed-on _ _ c.from_residual.ensures.1) ∙ z)) c.loop-i-test.true
