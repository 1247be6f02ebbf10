-- The bytes of a quoted text, for examples. Assumes nothing.
use Prim.Native.Nat.{ℕ}
use Prim.Native.Char.{code}
use Prim.Native.String.{String, [], ◌∷◌}
use mathlib.Core.List.{List, [] as nil, ◌∷◌ as ◌then◌}

-- the code of each character: the bytes of a text that is ASCII
abbrev pub bytes : String → List ℕ
bytes [] = nil
bytes (c ∷ s) = code c then bytes s
