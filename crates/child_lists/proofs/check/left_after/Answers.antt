-- `left_after` meets its contract. The loop's invariant: the walk from here on answers what the
-- whole walk does. The measure is what is left of the budget. Assumes nothing.
use native.Mathlib.Omega.{arith}
use mathlib.Core.Path.{sym, ap, ◌∙◌}
use Prim.Native.Nat.{ℕ, ◌-◌}
use Rattle.child_lists.specs.ChildLists.{walked}
use Rattle.child_lists.proofs.ChildListWalk.{walk-right, walk-not-last, walk-outside, walk-spent, walk-astray, walk-on}
use Rattle.child_lists.proofs.check.left_after.Goals as goal

pub returns-then-left-eq0 : goal.returns-then-left-eq0
returns-then-left-eq0 c =
    sym (walk-spent _ c.requires.parented _ _ _ (omega arith) _ c.if-left-eq0.true) ∙ c.loop-at.invariant

pub returns-then-parent : goal.returns-then-parent
returns-then-parent c =
    sym (walk-astray _ c.requires.parented _ _ _ (omega arith) _ (λ e. omega (arith, c.if-parent, c.parent.ensures))) ∙ c.loop-at.invariant

pub loop-at-preserved : goal.loop-at-preserved
loop-at-preserved c =
    ap (λ (x : ℕ). walked c.args.arena.now c.args.parent (c.loop-at.left - 1) x c.loop-at.at) c.next_sibling-at.ensures
    ∙ sym (walk-on _ c.requires.parented _ _ _ (omega arith) _ (omega (arith, c.if-left-eq0)) (omega (arith, c.if-parent, c.parent.ensures)))
    ∙ c.loop-at.invariant

pub returns-then-at : goal.returns-then-at
returns-then-at c =
    sym (walk-outside _ c.requires.parented _ _ _ _ (omega arith) (λ e. omega (arith, c.if-at))) ∙ c.loop-at.invariant

pub returns-then-last_child-last : goal.returns-then-last_child-last
returns-then-last_child-last c =
    sym (walk-not-last _ c.requires.parented _ _ _ _ (omega (arith, c.if-at)) (λ e. omega (arith, c.if-last_child-last, c.last_child.ensures)))
    ∙ c.loop-at.invariant

pub returns : goal.returns
returns c =
    sym (walk-right _ c.requires.parented _ _ _ _ (omega (arith, c.if-at)) (omega (arith, c.if-last_child-last, c.last_child.ensures)))
    ∙ c.loop-at.invariant
