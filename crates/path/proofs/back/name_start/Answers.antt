-- `name_start` meets its contract. The loop's invariant: the first `k` bytes have the last name's
-- start that the first `end` have. Assumes nothing.
use native.Mathlib.Omega.{arith}
use Prim.Native.Nat.{◌+◌, ◌-◌}
use Rattle.path.proofs.BackwardLaws.{start-at-slash, start-at-brace, start-before, start_none}
use mathlib.Core.Path.{◌≡◌, ◌∙◌, sym}
use Rattle.path.proofs.back.name_start.Goals as goal

pub returns-then-b-eq47 : goal.returns-then-b-eq47
returns-then-b-eq47 c =
    let here : c.loop-k.k - 1 + 1 ≡ c.loop-k.k = omega arith in
    (here ∙ sym (start-at-slash c.args.path.now c.loop-k.k c.loop-k-test.true c.if-b-eq47.true) ∙ c.loop-k.invariant, omega arith)

pub returns-then-b-eq125 : goal.returns-then-b-eq125
returns-then-b-eq125 c =
    let here : c.loop-k.k - 1 + 1 ≡ c.loop-k.k = omega arith in
    (here ∙ sym (start-at-brace c.args.path.now c.loop-k.k c.loop-k-test.true c.if-b-eq125.true) ∙ c.loop-k.invariant, omega arith)

pub loop-k-preserved : goal.loop-k-preserved
loop-k-preserved c =
    sym (start-before c.args.path.now c.loop-k.k c.loop-k-test.true c.if-b-eq47.false c.if-b-eq125.false) ∙ c.loop-k.invariant

pub returns : goal.returns
returns c =
    let none : 0 ≡ c.loop-k.k = omega arith in
    (none ∙ sym (start_none c.args.path.now c.loop-k.k c.loop-k-test.false) ∙ c.loop-k.invariant, omega arith)
