-- `gather_lists` meets its contract. The invariant of its loop: the lists of the kept nodes below
-- `parent` stand up to `start`. Assumes nothing.
use native.Mathlib.Omega.{arith}
use mathlib.Core.Path.{◌≡◌}
use mathlib.Core.List.{List}
use Prim.Native.Nat.{ℕ, ◌<◌}
use lib.ListN.{get_or}
use Rattle.model.specs.Arena.{count_in}
use Rattle.model.specs.ArenaCalls.{ValidArena}
use Rattle.model.specs.Erasing.{stays}
use Rattle.laws.proofs.EraseLists.{new-number-no-larger}
use Rattle.arena.proofs.HeldArenas.{held}
use Rattle.erasing.specs.KeptLists.{Numbers}
use Rattle.erasing.proofs.FlatLaws.{listing-room, listing-kept, listing-gone, listing-ends}
use Rattle.erasing.proofs.lists.gather_lists.Goals as goal
use Rattle.erasing.proofs.lists.gather_lists.Goals.{then-set-parent-eq0, else-set-parent-eq0}

-- node n and its new number have places in the arrays
module _ {bs set numbers : List ℕ} {count n : ℕ} (valid : ValidArena bs × (count ≡ count_in bs) × Numbers set count numbers) (here : n < count) where
  below : n < count_in bs
  below = omega (arith, valid.1)

  small : n < 1024
  small = omega (arith, below, (held bs valid.0.holds).few)

  number-small : get_or numbers n 0 < 1024
  number-small = omega (arith, small, valid.2.number n here, new-number-no-larger (stays set) n)

pub bounds-set-parent : goal.bounds-set-parent
bounds-set-parent c = omega (arith, small c.requires.valid_arena c.loop-parent-test.true, c.requires.set_len.0)

pub gather_list-end-requires-clause-set_len : goal.gather_list-end-requires-clause-set_len
gather_list-end-requires-clause-set_len c =
    let valid = c.requires.valid_arena in
    (c.requires.set_len.0, c.loop-parent.invariant.long, listing-room valid.0 c.loop-parent.invariant (below valid c.loop-parent-test.true))

pub bounds-numbers-parent : goal.bounds-numbers-parent
bounds-numbers-parent c = omega (arith, small c.requires.valid_arena c.loop-parent-test.true, c.requires.valid_arena.2.long)

pub bounds-ends-numbers : goal.bounds-ends-numbers
bounds-ends-numbers c = omega (arith, number-small c.requires.valid_arena c.loop-parent-test.true, c.loop-parent.invariant.as_long)

pub loop-parent-preserved : goal.loop-parent-preserved
loop-parent-preserved c =
    let valid = c.requires.valid_arena in
    let here = below valid c.loop-parent-test.true in
    elim c.if-set-parent-eq0.branch [
      | then-set-parent-eq0 w ↦ rw (w.lists-is, w.ends-is, w.start-is) (listing-kept valid.0 c.loop-parent.invariant here w.if-set-parent-eq0.true
          w.gather_list-end.ensures (valid.2.number _ c.loop-parent-test.true))
      | else-set-parent-eq0 w ↦ rw (w.lists-is, w.ends-is, w.start-is) (listing-gone valid.0 c.loop-parent.invariant here w.if-set-parent-eq0.false)
    ]

pub returns : goal.returns
returns c = listing-ends c.requires.valid_arena.0 c.loop-parent.invariant (omega arith)
