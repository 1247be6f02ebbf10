-- `last_name` meets its contract: what is left from the name's start on. Assumes nothing.
use Prim.Native.Nat.{ℕ, ◌-◌, ◌≤◌}
use Rattle.model.specs.Path.{last_name}
use native.Mathlib.Omega.{arith}
use mathlib.Core.Path.{◌∙◌, ap}
use lib.ListN.{length, drop, length-drop}
use lib.Seq.{take_all}
use Rattle.path.proofs.last_name.Goals as goal

pub returns : goal.returns
unfolding last_name
returns c =
    let path = c.args.path.now in
    let start = c.name_start-start.result in
    let fits : length (drop start path) ≤ length path - start = omega (arith, length-drop start path) in
    take_all _ (drop start path) fits ∙ ap (λ (k : ℕ). drop k path) c.name_start-start.ensures.0
