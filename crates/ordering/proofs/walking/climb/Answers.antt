-- `walking::climb` meets its contract. The invariant of its loop: climbing from the node leads
-- where climbing from the start does. The measure is the node, since a parent is lower. Assumes
-- nothing.
use mathlib.Core.Path.{refl, sym, ap, ◌∙◌}
use Prim.Native.Nat.{ℕ, ◌+◌}
use native.Mathlib.Omega.{arith}
use Rattle.model.specs.Arena.{next_sibling_in}
use Rattle.arena.specs.Slot.{parent_in, HasSlot}
use Rattle.ordering.specs.Ordering.{onward}
use Rattle.ordering.proofs.ClimbLaws.{onward-up, onward-out, onward-root}
use Rattle.ordering.proofs.walking.climb.Goals as goal

pub loop-node-init : goal.loop-node-init
loop-node-init c =
    (omega arith, refl)

pub returns-then-node-known : goal.returns-then-node-known
returns-then-node-known c =
    let bs = c.args.arena.now in
    c.requires.1 ∙ ap (λ (k : ℕ). onward (next_sibling_in bs) (parent_in bs) (k + 1) k) (sym c.if-node-known.true) ∙ c.loop-node.invariant.1

pub next_sibling-sibling-requires : goal.next_sibling-sibling-requires
next_sibling-sibling-requires c =
    let slot : HasSlot c.args.arena.now c.loop-node.node =
    record { whole = c.requires.0.whole; within = omega (arith, c.loop-node.invariant.0, c.requires.0.within) } in
    slot

pub returns-then-sibling : goal.returns-then-sibling
returns-then-sibling c =
    let e = c.next_sibling-sibling.ensures in
    e
    ∙ onward-out (next_sibling_in c.args.arena.now) (parent_in c.args.arena.now) c.args.from c.requires.0.lower c.loop-node.node c.loop-node-test.true
    (λ none. c.if-sibling.true (e ∙ none)) ∙ c.loop-node.invariant.1

pub parent-node-requires : goal.parent-node-requires
parent-node-requires c =
    let slot : HasSlot c.args.arena.now c.loop-node.node =
    record { whole = c.requires.0.whole; within = omega (arith, c.loop-node.invariant.0, c.requires.0.within) } in
    slot

pub loop-node-smaller : goal.loop-node-smaller
loop-node-smaller c =
    let other = c.loop-node-test.true in
    omega (arith, c.parent-node.ensures, c.requires.0.lower c.loop-node.node (omega arith) c.loop-node.invariant.0)

pub loop-node-preserved : goal.loop-node-preserved
loop-node-preserved c =
    let other = c.loop-node-test.true in
    let next = next_sibling_in c.args.arena.now in
    let up = parent_in c.args.arena.now in
    let lower = c.requires.0.lower in (
      omega (arith, c.parent-node.ensures, c.loop-node.invariant.0, lower c.loop-node.node (omega arith) c.loop-node.invariant.0),
      ap (λ (k : ℕ). onward next up (k + 1) k) c.parent-node.ensures
          ∙ onward-up next up c.args.from lower c.loop-node.node other c.loop-node.invariant.0 (sym c.next_sibling-sibling.ensures ∙ c.if-sibling.false)
          ∙ c.loop-node.invariant.1,
    )

pub returns : goal.returns
returns c =
    onward-root (next_sibling_in c.args.arena.now) (parent_in c.args.arena.now) c.args.from c.requires.0.lower c.loop-node.node c.loop-node-test.false ∙ c.loop-node.invariant.1
