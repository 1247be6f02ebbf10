-- What the writer asks, and the front of a snapshot: model/specs/Snapshot.antt's `write_snapshot` up
-- to the records.
use Rattle.std.specs.Prelude.{◌≡◌, List, ◌∷◌, ◌++◌, ℕ, length}
use Rattle.model.specs.Snapshot.{big_endian}
use Rattle.model.specs.ArenaCalls.{ValidArena}

-- an arena that holds a graph, and bytes for the largest snapshot
pub record CanWrite (arena out : List ℕ) : Type 0 where
  pub opened : ValidArena arena
  pub large : length out ≡ 65536

-- "4 bytes counting all that follow, version byte 1, node count in 2 bytes"
abbrev pub front_bytes : ℕ → ℕ → List ℕ
front_bytes following count = big_endian 4 following ++ (1 ∷ big_endian 2 count)
