-- `filter_order` meets its contract. The invariant of its loop: the entries from `n` on are left,
-- and what is kept of the others stands up to `kept`. Assumes nothing.
use native.Mathlib.Omega.{arith}
use mathlib.Core.Path.{◌≡◌, sym, ◌∙◌}
use mathlib.Core.List.{List}
use Prim.Native.Nat.{ℕ, ◌<◌}
use lib.ListN.{length}
use Rattle.model.specs.Arena.{count_in, ordered_in, order_entry_in}
use Rattle.model.specs.ArenaCalls.{ValidArena, ValidNode}
use Rattle.arena.proofs.ReadNodes.{has-slot}
use Rattle.erasing.specs.KeptLists.{Numbers}
use Rattle.erasing.proofs.KeptOrder.{Filtering, filtered-none, entry-readable, filtering-start, filtering-room, filtering-kept, filtering-gone, filtering-ends}
use Rattle.erasing.proofs.lists.filter_order.Goals as goal
use Rattle.erasing.proofs.lists.filter_order.Goals.{then-set-i-eq0, else-set-i-eq0}

-- the entry at n is a node, and has places in the arrays
module _ {bs set numbers : List ℕ} {count mark n entry : ℕ} (valid : ValidArena bs × (count ≡ count_in bs) × Numbers set count numbers)
    (read : mark ≡ ordered_in bs) (one : mark ≡ 1) (here : n < count) (at : entry ≡ order_entry_in bs n) where
  below : n < count_in bs
  below = omega (arith, valid.1)

  readable : ValidNode bs entry
  readable = entry-readable valid.0 (sym read ∙ one) below at

  small : entry < 1024
  small = (has-slot _ _ readable).within

  module _ {before : List ℕ} {kept : ℕ} {array : List ℕ} (w : Filtering bs set before kept n array) where
    room : kept < length array
    room = filtering-room valid.0 (sym read ∙ one) w below at

pub returns-then-ordered-ne1 : goal.returns-then-ordered-ne1
returns-then-ordered-ne1 c =
    (omega arith, filtered-none c.args.arena.now c.args.set.now (λ e. c.if-ordered-ne1.true (c.ordered.ensures ∙ e)))

pub loop-n-init : goal.loop-n-init
loop-n-init c =
    filtering-start c.requires.valid_arena.0 (sym c.ordered.ensures ∙ c.if-ordered-ne1.false) c.requires.set_len.1

pub order_entry-i-requires : goal.order_entry-i-requires
order_entry-i-requires c =
    has-slot _ _ (record { opened = c.requires.valid_arena.0; below = omega (arith, c.loop-n-test.true, c.requires.valid_arena.1) })

pub bounds-set-i : goal.bounds-set-i
bounds-set-i c =
    let fits = small c.requires.valid_arena c.ordered.ensures c.if-ordered-ne1.false c.loop-n-test.true c.order_entry-i.ensures in
    omega (arith, fits, c.requires.set_len.0)

pub bounds-numbers-i : goal.bounds-numbers-i
bounds-numbers-i c =
    let fits = small c.requires.valid_arena c.ordered.ensures c.if-ordered-ne1.false c.loop-n-test.true c.order_entry-i.ensures in
    omega (arith, fits, c.requires.valid_arena.2.long)

pub bounds-order-kept : goal.bounds-order-kept
bounds-order-kept c =
    room c.requires.valid_arena c.ordered.ensures c.if-ordered-ne1.false c.loop-n-test.true c.order_entry-i.ensures c.loop-n.invariant

pub loop-n-preserved : goal.loop-n-preserved
loop-n-preserved c =
    let valid = c.requires.valid_arena in
    let ordered = sym c.ordered.ensures ∙ c.if-ordered-ne1.false in
    let here = below valid c.ordered.ensures c.if-ordered-ne1.false c.loop-n-test.true c.order_entry-i.ensures in
    let node = readable valid c.ordered.ensures c.if-ordered-ne1.false c.loop-n-test.true c.order_entry-i.ensures in
    elim c.if-set-i-eq0.branch [
      | then-set-i-eq0 w ↦ rw (w.order-is, w.kept-is) (filtering-kept valid.0 ordered c.loop-n.invariant here c.order_entry-i.ensures w.if-set-i-eq0.true
          (valid.2.number _ (omega (arith, node.below, valid.1))))
      | else-set-i-eq0 w ↦ rw (w.order-is, w.kept-is) (filtering-gone valid.0 ordered c.loop-n.invariant here c.order_entry-i.ensures w.if-set-i-eq0.false)
    ]

pub returns : goal.returns
returns c =
    filtering-ends c.requires.valid_arena.0 (sym c.ordered.ensures ∙ c.if-ordered-ne1.false) c.loop-n.invariant c.requires.set_len.1
    (omega (arith, c.loop-n-test.false, c.requires.valid_arena.1))
