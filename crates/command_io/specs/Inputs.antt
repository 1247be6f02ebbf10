-- What reading the input answers: a number of bytes that the buffer holds, and, of an input whose
-- bytes are known, that these are all of it, or that it has more than there is room for.
use Rattle.std.specs.Prelude.{◌≡◌, ℕ, ◌<◌, ◌≤◌, List, [], length, take, Result, Ok, Err}
use Rattle.command_io.specs.declared.input.InputError.{InputError}
use Rattle.command_io.specs.declared.input.InputError.TheVariants.{Long, Failed}

abbrev pub HeldIn : ℕ → Result ℕ InputError → Type 0
HeldIn size (Ok count) = count ≤ size
HeldIn size (Err _) = Unit {0}

-- the input is `xs`, the buffer has `size` bytes, and `after` once it was read
abbrev pub HoldsInput : List ℕ → ℕ → List ℕ → Result ℕ InputError → Type 0
HoldsInput xs size after (Ok count) = take count after ≡ xs
HoldsInput xs size after (Err Long) = size < length xs
HoldsInput xs size after (Err Failed) = Unit {0}

-- what is left of the input behind the first `held` bytes is `rest`
abbrev pub EndsInput : List ℕ → ℕ → Result ℕ InputError → Type 0
EndsInput rest held (Ok count) = (count ≡ held) × (rest ≡ [])
EndsInput rest held (Err Long) = 0 < length rest
EndsInput rest held (Err Failed) = Unit {0}
