-- The loop that finds the new numbers: its state, `Numbering`. Assumes nothing.
use mathlib.Core.Path.{◌≡◌}
use mathlib.Core.List.{List}
use Prim.Native.Nat.{ℕ, ◌≤◌}
use native.Mathlib.Omega.{arith}
use Rattle.model.specs.Erasing.{stays, new_number}
use Rattle.laws.proofs.EraseLists.{new-number-no-larger}
use Rattle.erasing.specs.KeptLists.{Numbers}

-- the nodes below n have their numbers, `kept` of them stay
pub record Numbering (bytes : List ℕ) (kept n : ℕ) (numbers : List ℕ) : Type 0 where
  pub below : kept ≡ new_number (stays bytes) n
  pub found : Numbers bytes n numbers

pub numbering-few : {bytes : List ℕ} {kept n : ℕ} {numbers : List ℕ} → Numbering bytes kept n numbers → kept ≤ n
numbering-few {bytes} {kept} {n} w = omega (arith, w.below, new-number-no-larger (stays bytes) n)
