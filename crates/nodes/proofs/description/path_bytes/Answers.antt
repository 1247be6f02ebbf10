-- `path_bytes` meets its contract. The loop's invariant: the sum and the bytes from `n` on are all
-- of them. Assumes nothing.
use native.Mathlib.Omega.{arith}
use Prim.Native.Nat.{ℕ, ◌+◌, ◌-◌, ◌<◌}
use mathlib.Core.Path.{◌≡◌}
use mathlib.Core.List.{List}
use Rattle.model.specs.Arena.{count_in, record_length_in, decode}
use Rattle.model.specs.Refusals.{path_bytes}
use Rattle.model.specs.ArenaCalls.{ValidArena, ValidNode}
use Rattle.arena.proofs.ReadNodes.{has-slot, has-path}
use Rattle.nodes.proofs.DescribingLaws.{bytes_from, bytes-start, bytes-step, bytes-end, few_bytes}
use Rattle.nodes.proofs.description.path_bytes.Goals as goal

module _ {bs : List ℕ} {count n : ℕ} (valid : ValidArena bs × (count ≡ count_in bs)) (here : n < count) where
  readable : ValidNode bs n
  readable = record { opened = valid.0; below = omega (arith, valid.1) }

  -- the sum with node n's path bytes
  stepped : (sum : ℕ) {long : ℕ} → sum + bytes_from bs n ≡ path_bytes (decode bs).nodes → long ≡ record_length_in bs n
      → sum + (long - 27) + bytes_from bs (n + 1) ≡ path_bytes (decode bs).nodes
  stepped sum before read = omega (arith, bytes-step bs n readable)

pub loop-n-init : goal.loop-n-init
loop-n-init c = omega (arith, bytes-start c.args.arena.now)

pub record_length-requires : goal.record_length-requires
record_length-requires c = has-slot _ _ (readable c.requires c.loop-n-test.true)

pub overflow_sub-sum : goal.overflow_sub-sum
overflow_sub-sum c =
    omega (arith, (has-path _ _ (readable c.requires c.loop-n-test.true)).numbered, c.record_length.ensures)

pub overflow_add-sum : goal.overflow_add-sum
overflow_add-sum c =
    omega (arith, stepped c.requires c.loop-n-test.true _ c.loop-n.invariant c.record_length.ensures, few_bytes _ c.requires.0)

pub loop-n-preserved : goal.loop-n-preserved
loop-n-preserved c = stepped c.requires c.loop-n-test.true _ c.loop-n.invariant c.record_length.ensures

pub returns : goal.returns
returns c =
    let all = few_bytes _ c.requires.0 in
    let none = bytes-end c.args.arena.now c.loop-n.n (omega (arith, c.requires.1, c.loop-n-test.false)) in
    (omega (arith, c.loop-n.invariant), omega (arith, c.loop-n.invariant))
