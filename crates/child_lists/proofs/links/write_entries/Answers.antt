-- `write_entries` meets its contract. The invariant of its loop: storing the entries from n on
-- leaves what storing all leaves. Assumes nothing.
use mathlib.Core.Path.{◌≡◌, sym, ap, ◌∙◌}
use mathlib.Core.List.{List}
use Prim.Native.Nat.{ℕ, ◌≤◌}
use native.Mathlib.Omega.{arith}
use lib.ListN.{length}
use lib.Seq.{slice, length-take-le, get_or-take}
use Rattle.model.specs.Arena.{tabulate, order_stored}
use Rattle.arena.proofs.StoredEntries.{storing-step, storing-end}
use Rattle.arena.proofs.TabulateLaws.{tabulate-same}
use Rattle.child_lists.proofs.links.write_entries.Invariants.{entry_of}
use Rattle.child_lists.proofs.links.write_entries.Goals as goal

all-entries : (count : ℕ) (order : List ℕ) → count ≤ length order
    → tabulate (entry_of order) 0 count ≡ slice 0 count order
all-entries count order h =
    tabulate-same (entry_of order) 0 count (slice 0 count order) (sym (length-take-le count order h))
    (λ i l. sym (get_or-take count order i 0 l))

pub loop-n-preserved : goal.loop-n-preserved
loop-n-preserved c =
    storing-step c.loop-n.invariant _
    c.loop-n-test.true c.write_order_entry.auto.arena c.write_order_entry.ensures

pub returns : goal.returns
returns c =
    storing-end c.loop-n.invariant c.loop-n-test.false
    ∙ ap (λ (l : List ℕ). order_stored l 0 c.args.arena.now)
    (all-entries c.args.count c.args.order.now (omega (arith, c.requires)))
