-- `seeding::seed_order` meets its contract. The invariant of its loop is `Storing`. Assumes nothing.
use mathlib.Core.Path.{ap, ◌∙◌}
use Prim.Native.Nat.{ℕ}
use Rattle.arena.specs.Slot.{order_entry_stored}
use Rattle.arena.proofs.StoredEntries.{storing-step}
use Rattle.deepening.proofs.seeding.seed_order.Goals as goal

pub loop-n-preserved : goal.loop-n-preserved
loop-n-preserved c =
    storing-step c.loop-n.invariant _ c.loop-n-test.true c.write_order_entry.auto.arena
    (c.write_order_entry.ensures ∙ ap (λ (k : ℕ). order_entry_stored c.loop-n.n k c.loop-n.into) c.order_entry.ensures)
