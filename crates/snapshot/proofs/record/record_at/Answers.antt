-- `record_at` meets its contract: the part handed back is what the length before it counts. Assumes
-- nothing.
use mathlib.Core.Path.{◌≡◌, ap}
use Prim.Native.Nat.{ℕ, ◌+◌, ◌-◌}
use native.Mathlib.Omega.{arith}
use lib.ListN.{take, drop}
use Rattle.model.specs.Snapshot.{field}
use Rattle.snapshot.proofs.record.record_at.Goals as goal

pub returns : goal.returns
returns c =
    let start = c.args.at + 2 in
    let long : (start + c.read_u16.result) - start ≡ field c.args.at 2 c.args.bytes.now = omega arith in
    ap (λ (k : ℕ). take k (drop start c.args.bytes.now)) long
