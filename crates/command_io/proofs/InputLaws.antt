-- What was read lies within every larger buffer (`held_more`), and its length within the buffer
-- (`held-within`). Assumes nothing.
use mathlib.Core.Path.{◌≡◌}
use Prim.Native.Nat.{ℕ, ◌≤◌}
use native.Mathlib.Omega.{arith}
use Rattle.std.specs.Prelude.{Result, Ok, Err}
use Rattle.command_io.specs.declared.input.InputError.{InputError}
use Rattle.command_io.specs.Inputs.{HeldIn}

pub held_more : (a b : ℕ) (r : Result ℕ InputError) → a ≤ b → HeldIn a r → HeldIn b r
held_more a b (Ok count) l h = omega arith
held_more a b (Err e) l h = tt

pub held-within : (size : ℕ) (r : Result ℕ InputError) → HeldIn size r → (count : ℕ) → r ≡ Ok count → count ≤ size
held-within size r h count e = rw e at h
