-- `check_record_lengths` meets its contract. The loop's invariant is `Asked`: what is left passes
-- question 12 where all of it does. Assumes nothing.
use mathlib.Core.Path.{◌≡◌, sym, ◌∙◌}
use Prim.Native.Nat.{◌+◌, ◌-◌}
use native.Mathlib.Omega.{arith}
use Rattle.snapshot.proofs.FieldLaws.{asked-more, asked-missing, asked-all, asked-behind, length_taken}
use Rattle.snapshot.proofs.checks.check_record_lengths.Goals as goal

pub returns-in_default : goal.returns-in_default
returns-in_default c =
    asked-missing _ _ _ _ c.loop-passed.invariant (omega (arith, c.loop-passed-test.true)) (sym c.take_length.ensures ∙ c.in_default.is)

pub loop-passed-preserved : goal.loop-passed-preserved
loop-passed-preserved c =
    let found = length_taken _ _ c.loop-passed.invariant.within _ (sym c.take_length.ensures ∙ c.in-Some.is) in
    let left : c.args.count - (c.loop-passed._passed + 1) ≡ c.args.count - c.loop-passed._passed - 1 = omega arith in
    rw (found.1, left) (asked-more _ _ _ _ c.loop-passed.invariant (omega (arith, c.loop-passed-test.true)) found.0)

pub returns-then-at-bytes : goal.returns-then-at-bytes
returns-then-at-bytes c =
    asked-behind _ _ _ _ c.loop-passed.invariant (omega (arith, c.loop-passed-test.false)) c.if-at-bytes.true

pub returns : goal.returns
returns c =
    asked-all _ _ _ _ c.loop-passed.invariant (omega (arith, c.loop-passed-test.false)) c.if-at-bytes.false
