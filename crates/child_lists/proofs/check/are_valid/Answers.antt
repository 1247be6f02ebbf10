-- `are_valid` meets its contract. The loop's invariant: the lists of the nodes below `n` are
-- right, and `left` nodes more would make all but node 0. Assumes nothing.
use native.Mathlib.Numerals.{add-one}
use native.Mathlib.Omega.{arith}
use mathlib.Core.Path.{sym, ◌∙◌}
use Prim.Native.Nat.{◌-◌}
use Rattle.child_lists.proofs.CountLaws.{right-empty, wrong-root, walking_start, walking_on, walking-wrong, walking-ends}
use Rattle.child_lists.proofs.check.are_valid.Goals as goal

pub returns-then-count-eq0 : goal.returns-then-count-eq0
returns-then-count-eq0 c =
    sym (right-empty c.args.arena.now c.requires.parented (omega arith))

pub returns-then-next_sibling-ne-NO_NODE : goal.returns-then-next_sibling-ne-NO_NODE
returns-then-next_sibling-ne-NO_NODE c =
    sym (wrong-root c.args.arena.now c.requires.parented (omega arith) (λ e. c.if-next_sibling-ne-NO_NODE.true (c.next_sibling.ensures ∙ e)))

pub loop-n-init : goal.loop-n-init
loop-n-init c =
    walking_start c.args.arena.now c.requires.parented (c.args.count - 1) (omega arith)

pub returns-in_default : goal.returns-in_default
returns-in_default c =
    sym (walking-wrong c.args.arena.now c.requires.parented c.loop-n.n c.loop-n.left c.loop-n.invariant (omega (arith, c.loop-n-test))
    (sym c.left_after.ensures ∙ c.in_default.is))

pub loop-n-preserved : goal.loop-n-preserved
loop-n-preserved c =
    rw (add-one c.loop-n.n) (walking_on c.args.arena.now c.requires.parented c.loop-n.n c.loop-n.left c.loop-n.invariant c.in-Some.rest
    (sym c.left_after.ensures ∙ c.in-Some.is))

pub returns : goal.returns
returns c =
    walking-ends c.args.arena.now c.requires.parented c.loop-n.n c.loop-n.left c.loop-n.invariant (omega arith) (omega arith)
    (sym c.next_sibling.ensures ∙ c.if-next_sibling-ne-NO_NODE.false)
