-- `gather_list` meets its contract. The invariant of its loop: the children from `child` on are
-- left, and what is kept of the others stands from `start` to `end`. The measure is how many are
-- left. Assumes nothing.
use native.Mathlib.Omega.{arith}
use mathlib.Core.Path.{◌≡◌}
use mathlib.Core.List.{List}
use Prim.Native.Nat.{ℕ, ◌<◌}
use Rattle.model.specs.ArenaCalls.{ValidArena}
use Rattle.arena.proofs.ReadNodes.{has-slot}
use Rattle.erasing.proofs.KeptChildren.{Walking, walking_start, walking-readable, walking-less, walking-kept, walking-gone, walking-ends}
use Rattle.erasing.proofs.lists.gather_list.Goals as goal

-- a child has places in the arrays
small : {bs set : List ℕ} {parent start : ℕ} {before : List ℕ} {child end : ℕ} {array : List ℕ} → ValidArena bs
    → Walking bs set parent start before child end array → (child ≡ 4294967295 → ⊥) → child < 1024
small opened w more = (has-slot _ _ (walking-readable opened w more)).within

pub first_child-child-requires : goal.first_child-child-requires
first_child-child-requires c =
    has-slot _ _ (record { opened = c.requires.valid_arena.0; below = c.requires.valid_arena.1 })

pub loop-child-init : goal.loop-child-init
loop-child-init c =
    walking_start c.requires.valid_arena.0 c.requires.valid_arena.1 (omega (arith, c.requires.set_len)) c.first_child-child.ensures

pub next_sibling-child-requires : goal.next_sibling-child-requires
next_sibling-child-requires c =
    has-slot _ _ (walking-readable c.requires.valid_arena.0 c.loop-child.invariant c.loop-child-test.true)

pub bounds-set-i : goal.bounds-set-i
bounds-set-i c =
    let fits = small c.requires.valid_arena.0 c.loop-child.invariant c.loop-child-test.true in
    omega (arith, fits, c.requires.set_len.0)

pub bounds-numbers-i : goal.bounds-numbers-i
bounds-numbers-i c =
    let fits = small c.requires.valid_arena.0 c.loop-child.invariant c.loop-child-test.true in
    omega (arith, fits, c.requires.valid_arena.2.long)

pub loop-child-smaller-then-set-i-eq0 : goal.loop-child-smaller-then-set-i-eq0
loop-child-smaller-then-set-i-eq0 c =
    walking-less c.requires.valid_arena.0 c.loop-child.invariant c.loop-child-test.true c.next_sibling-child.ensures

pub loop-child-preserved-then-set-i-eq0 : goal.loop-child-preserved-then-set-i-eq0
loop-child-preserved-then-set-i-eq0 c =
    let opened = c.requires.valid_arena.0 in
    let node = walking-readable opened c.loop-child.invariant c.loop-child-test.true in
    walking-kept opened c.loop-child.invariant c.loop-child-test.true c.next_sibling-child.ensures
    c.if-set-i-eq0.true (c.requires.valid_arena.2.number _ node.below)

pub loop-child-smaller : goal.loop-child-smaller
loop-child-smaller c =
    walking-less c.requires.valid_arena.0 c.loop-child.invariant c.loop-child-test.true c.next_sibling-child.ensures

pub loop-child-preserved : goal.loop-child-preserved
loop-child-preserved c =
    walking-gone c.requires.valid_arena.0 c.loop-child.invariant c.loop-child-test.true c.next_sibling-child.ensures c.if-set-i-eq0.false

pub returns : goal.returns
returns c = walking-ends c.requires.valid_arena.0 c.loop-child.invariant c.loop-child-test.false
