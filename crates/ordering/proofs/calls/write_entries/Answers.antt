-- `write_entries` meets its contract. The loop's invariant is `Listed`: the first n entries are
-- written. Assumes nothing.
use mathlib.Core.Path.{ap, ◌∙◌}
use Prim.Native.Nat.{ℕ, ◌*◌, ◌<◌}
use native.Mathlib.Omega.{arith}
use Rattle.model.specs.Arena.{count_in}
use Rattle.model.specs.Bytes.{stored}
use Rattle.model.specs.Snapshot.{big_endian}
use Rattle.arena.proofs.ReadNodes.{has-slot}
use Rattle.ordering.proofs.OrderEntries.{few, listed-none, listed_more}
use Rattle.ordering.proofs.calls.write_entries.Goals as goal

pub loop-n-init : goal.loop-n-init
loop-n-init c = listed-none _ _ c.requires.0 c.requires.2

pub order_entry-requires : goal.order_entry-requires
order_entry-requires c =
    has-slot _ _ (record { opened = c.requires.0; below = omega (arith, c.loop-n-test.true, c.requires.1) })

pub write_u32-requires : goal.write_u32-requires
write_u32-requires c =
    let long = few c.args.arena.now c.args.out.now c.requires.0 c.requires.2 in
    omega (arith, long, c.loop-n-test.true, c.requires.1, c.requires.2)

pub loop-n-preserved : goal.loop-n-preserved
loop-n-preserved c =
    let here : c.loop-n.n < count_in c.args.arena.now = omega (arith, c.loop-n-test.true, c.requires.1) in
    listed_more _ _ c.requires.0 c.requires.2 _ _ c.loop-n.invariant here _
    (c.write_u32.ensures ∙ ap (λ (e : ℕ). stored (4 * c.loop-n.n) (big_endian 4 e) c.loop-n.out) c.order_entry.ensures)
