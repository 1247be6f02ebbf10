-- `is_inert` meets its contract: a number divided by 1 is itself. Assumes nothing.
use mathlib.Core.Path.{◌≡◌, ap}
use Prim.Native.Nat.{ℕ, ◌/◌, ◌%◌}
use native.Mathlib.Omega.{arith}
use lib.Dec.{eqb}
use Rattle.validate.proofs.record.is_inert.Goals as goal

pub returns : goal.returns
returns c =
    let flags = c.args.flags in
    let whole : flags ≡ flags / 1 = omega arith in
    ap (λ (n : ℕ). eqb (n % 2) 1) whole
