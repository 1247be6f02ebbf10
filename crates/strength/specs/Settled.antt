-- What it means that two siblings are settled at once, by their own records.
use Rattle.std.specs.Prelude.{None, Option, Some}
use Rattle.std.specs.declared.cmp.Ordering.{Ordering}
use Rattle.std.specs.Prelude.{◌≡◌, ℕ}
use Rattle.model.specs.Strength.{View, compare_sibling_node_strength}

-- the answer is theirs, or they have one rank and it is open
abbrev pub IsSettledEarly : View → ℕ → ℕ → Option Ordering → Type 0
IsSettledEarly u a b (Some o) = o ≡ compare_sibling_node_strength u a b
IsSettledEarly u a b None = u.rank a ≡ u.rank b
