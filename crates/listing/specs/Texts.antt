-- What the functions that write a listing promise each other: its parts, and what is left where a
-- part is put. The text is model/specs/Listing.antt's; here its parts are shut, so that no proof
-- writes out a number's twenty digits.
use Rattle.std.specs.Prelude.{◌≡◌, List, [], ◌∷◌, ◌++◌, ℕ, ◌+◌, length, get_or}
use Rattle.model.specs.Bytes.{stored}
use Rattle.model.specs.Graph.{node_at}
use Rattle.model.specs.Listing.{decimal, arc_letters, node_line, node_lines}
use Rattle.model.specs.Arena.{arena_bytes, ordered_in, decode}
use Rattle.model.specs.ArenaCalls.{ValidArena}

unfoldable pub number : ℕ → List ℕ
number n = decimal n

-- "`order` and the count", as a line
unfoldable pub head_line : ℕ → List ℕ
head_line count = 0x6f ∷ 0x72 ∷ 0x64 ∷ 0x65 ∷ 0x72 ∷ 0x20 ∷ number count ++ (0xa ∷ [])

-- the line of node n: "number, arc letter, depth", and then the path
unfoldable pub line_of : List ℕ → ℕ → List ℕ
line_of arena n = node_line n (node_at (decode arena).nodes n)

unfoldable pub line_front : ℕ → ℕ → ℕ → List ℕ
line_front n arc depth = number n ++ (0x20 ∷ get_or arc_letters arc 0 ∷ 0x20 ∷ number depth)

abbrev pub line_rest : List ℕ → List ℕ
line_rest path = 0x20 ∷ path ++ (0xa ∷ [])

unfoldable pub lines_of : List ℕ → List ℕ
lines_of arena = node_lines (decode arena).nodes (decode arena).order

-- the text is put from `at` on, and ends at `end`
pub record Put (at : ℕ) (text before : List ℕ) (end : ℕ) (after : List ℕ) : Type 0 where
  pub place : end ≡ at + length text
  pub bytes : after ≡ stored at text before

-- an arena that holds an ordered graph, and bytes for every listing
pub record CanList (arena out : List ℕ) : Type 0 where
  pub opened : ValidArena arena
  pub ordered : ordered_in arena ≡ 1
  pub large : length out ≡ arena_bytes
