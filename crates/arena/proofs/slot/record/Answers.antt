-- `record` meets its contract: the part handed back is the record of the slot, from its length on.
-- Assumes nothing.
use mathlib.Core.Path.{◌≡◌, ap}
use Prim.Native.Nat.{ℕ, ◌+◌, ◌-◌}
use native.Mathlib.Omega.{arith}
use lib.ListN.{take, drop}
use Rattle.model.specs.Arena.{slot_at, record_length_in}
use Rattle.arena.proofs.slot.record.Goals as goal

pub returns : goal.returns
returns c =
    let bs = c.args.arena.now in
    let start = slot_at c.args.n + 17 in
    let long : (start + 2 + c.record_length.result) - start ≡ 2 + record_length_in bs c.args.n = omega arith in
    ap (λ (k : ℕ). take k (drop start bs)) long
