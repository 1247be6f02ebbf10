-- `state_allowed` meets its contract: each way out decides the tests of the marks. Assumes nothing.
use mathlib.Core.Path.{sym}
use Prim.Native.Nat.{◌≤◌}
use Rattle.validate.proofs.MarksLaws.{ordered-other, finalized-other, shallow-other, unfinalized, final-unordered, final-left}
use Rattle.validate.proofs.graph.state_allowed.Goals as goal

pub returns-then-ordered-gt1 : goal.returns-then-ordered-gt1
returns-then-ordered-gt1 c =
    sym (ordered-other _ _ _ c.if-ordered-gt1.true)

pub returns-then-finalized-gt1 : goal.returns-then-finalized-gt1
returns-then-finalized-gt1 c =
    sym (finalized-other _ _ _ c.if-ordered-gt1.false c.if-finalized-gt1.true)

pub returns-then-shallow-gt1 : goal.returns-then-shallow-gt1
returns-then-shallow-gt1 c =
    sym (shallow-other _ _ _ c.if-ordered-gt1.false c.if-finalized-gt1.false c.if-shallow-gt1.true)

pub returns-then-finalized-eq0 : goal.returns-then-finalized-eq0
returns-then-finalized-eq0 c =
    let bits : (c.args.ordered ≤ 1) × (c.args.finalized ≤ 1)
    × (c.args.shallow ≤ 1) =
    (c.if-ordered-gt1.false, c.if-finalized-gt1.false, c.if-shallow-gt1.false) in
    sym (unfinalized _ _ _ bits c.if-finalized-eq0.true)

pub returns-then-ordered-ne1 : goal.returns-then-ordered-ne1
returns-then-ordered-ne1 c =
    let bits : (c.args.ordered ≤ 1) × (c.args.finalized ≤ 1)
    × (c.args.shallow ≤ 1) =
    (c.if-ordered-gt1.false, c.if-finalized-gt1.false, c.if-shallow-gt1.false) in
    sym (final-unordered _ _ _ bits c.if-finalized-eq0.false c.if-ordered-ne1.true)

pub returns : goal.returns
returns c =
    let bits : (c.args.ordered ≤ 1) × (c.args.finalized ≤ 1)
    × (c.args.shallow ≤ 1) =
    (c.if-ordered-gt1.false, c.if-finalized-gt1.false, c.if-shallow-gt1.false) in
    sym (final-left _ _ _ bits c.if-finalized-eq0.false c.if-ordered-ne1.false)
