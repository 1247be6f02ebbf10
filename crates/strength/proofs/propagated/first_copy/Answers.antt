-- `first_copy` meets its contract. The loop's invariant: the first copy from `child` on, of the
-- nodes that are left, is the first of the whole list. Assumes nothing.
use native.Mathlib.Omega.{arith}
use mathlib.Core.Path.{◌≡◌, sym, ap, ◌∙◌}
use mathlib.Core.List.{List}
use Prim.Native.Nat.{ℕ, ◌+◌, ◌-◌, ◌<◌}
use Rattle.model.specs.Arena.{count_in}
use Rattle.model.specs.ArenaCalls.{ValidNode}
use Rattle.view.specs.View.{ValidNodeAndRoot}
use Rattle.arena.proofs.ReadNodes.{has-slot}
use Rattle.strength.proofs.CopyLaws.{copy_from, copy-taken, copy_passed, copies-end}
use Rattle.strength.proofs.propagated.first_copy.Goals as goal

readable : {bs : List ℕ} {root count child : ℕ} → ValidNodeAndRoot bs root root → count ≡ count_in bs → child < count → ValidNode bs child
readable valid counted below = record { opened = valid.readable.opened; below = omega arith }

pub first_child-child-requires : goal.first_child-child-requires
first_child-child-requires c =
    has-slot _ _ c.requires.readable

pub returns-then-child-count : goal.returns-then-child-count
returns-then-child-count c =
    sym (copies-end c.args.arena.now c.args.n (c.count-count.result - c.loop-passed._passed) c.loop-passed.child (omega (arith, c.if-child-count.true, c.count-count.ensures)))
    ∙ c.loop-passed.invariant

pub returns-then-is_copy : goal.returns-then-is_copy
returns-then-is_copy c =
    copy-taken c.args.arena.now c.args.n (c.count-count.result - c.loop-passed._passed) c.loop-passed.child (omega (arith, c.loop-passed-test.true))
    (readable c.requires c.count-count.ensures c.if-child-count.false).below (sym c.is_copy.ensures ∙ c.if-is_copy.true)
    ∙ c.loop-passed.invariant

pub next_sibling-child-requires : goal.next_sibling-child-requires
next_sibling-child-requires c = has-slot _ _ (readable c.requires c.count-count.ensures c.if-child-count.false)

pub loop-passed-preserved : goal.loop-passed-preserved
loop-passed-preserved c =
    let left : c.count-count.result - (c.loop-passed._passed + 1) ≡ c.count-count.result - c.loop-passed._passed - 1 = omega arith in
    ap (λ (k : ℕ). copy_from c.args.arena.now c.args.n k c.next_sibling-child.result) left
    ∙ copy_passed c.args.arena.now c.args.n (c.count-count.result - c.loop-passed._passed) c.loop-passed.child c.next_sibling-child.result
    (omega (arith, c.loop-passed-test.true)) (readable c.requires c.count-count.ensures c.if-child-count.false).below
    (sym c.is_copy.ensures ∙ c.if-is_copy.false) c.next_sibling-child.ensures
    ∙ c.loop-passed.invariant
