-- `path_bytes` meets its contract. The loop's invariant: the sum and the bytes from `n` on are all
-- of them. Assumes nothing.
use Prim.Native.Nat.{◌+◌}
use mathlib.Core.Path.{◌≡◌}
use Rattle.model.specs.Arena.{decode}
use Rattle.model.specs.Refusals.{path_bytes}
use Rattle.nodes.proofs.DescribingLaws.{bytes_from}
use Rattle.nodes.proofs.description.path_bytes.Given as goal

abbrev pub invariant-loop-n : goal.invariant-loop-n
invariant-loop-n l = l.sum + bytes_from l.arena l.n ≡ path_bytes (decode l.arena).nodes
