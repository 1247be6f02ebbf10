-- The empty graph in an arena: encoding it stores the count 0 and clears the marks
-- (`empty-encode`), and the arena then holds a graph whatever its other bytes are (`empty_holds`).
-- Assumes nothing.
use mathlib.Core.Path.{◌≡◌, sym}
use mathlib.Core.Bool.{true, false}
use mathlib.Core.List.{List, [], ◌∷◌}
use Prim.Native.Nat.{ℕ}
use native.Mathlib.Omega.{arith}
use lib.ListN.{length}
use Rattle.model.specs.Graph.{empty_graph}
use Rattle.model.specs.Snapshot.{big_endian}
use Rattle.model.specs.Arena.{arena_bytes, encode, holds_graph}
use Rattle.laws.proofs.StoredLaws.{stored_next}
use Rattle.arena.specs.Header.{count_stored, marks_stored}
use Rattle.arena.proofs.Encodable.{empty-encodable}
use Rattle.arena.proofs.ArenaHolds.{holds-encoded}

module _ (bs : List ℕ) (whole : length bs ≡ arena_bytes) where
  pub empty-encode : encode empty_graph bs ≡ marks_stored false false false (count_stored 0 bs)
  unfolding encode
  empty-encode = sym (stored_next 0 (big_endian 4 0) (0 ∷ 0 ∷ 0 ∷ []) bs (omega arith))

  pub empty_holds : holds_graph (encode empty_graph bs) ≡ true
  empty_holds = holds-encoded empty_graph bs empty-encodable whole
