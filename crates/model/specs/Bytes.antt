-- Bytes stored in a list of bytes, which the contract of every function that writes speaks of.
-- Within bounds the list keeps its length; the laws are in laws/proofs/StoredLaws.antt. Nothing
-- here is document 01's.
use Rattle.std.specs.Prelude.{List, ◌++◌, ℕ, ◌+◌, length, take, drop}

-- s with the bytes bs stored from `at` on
unfoldable pub stored : ℕ → List ℕ → List ℕ → List ℕ
stored at bs s = take at s ++ (bs ++ drop (at + length bs) s)
