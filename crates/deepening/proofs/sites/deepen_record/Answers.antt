-- `sites::deepen_record` meets its contract: the new path is written, and the record has one prim
-- more and the new path's length. Assumes nothing.
use mathlib.Core.Path.{ap, ◌∙◌}
use mathlib.Core.List.{List, ◌++◌}
use Prim.Native.Nat.{ℕ, ◌+◌, ◌-◌}
use native.Mathlib.Omega.{arith}
use lib.ListN.{length, take, drop}
use lib.Seq.{take_at}
use Rattle.model.specs.Arena.{node_in}
use Rattle.model.specs.Path.{append_name}
use Rattle.deepening.proofs.DeepenedSites.{end-joined, name-some, prims-raised, few-prims, node-joined}
use Rattle.deepening.proofs.sites.deepen_record.Goals as goal

pub put_joined-requires : goal.put_joined-requires
put_joined-requires c =
    let ends = end-joined (node_in c.args.arena.now c.args.n).path c.args.name.now c.joint-at.ensures c.path-old.ensures in (
      c.joint-at.ensures,
      name-some c.args.arena.now c.args.name.now c.args.n c.requires.0,
      omega (arith, ends, c.requires.0.fits, c.requires.1),
    )

pub overflow_add-node : goal.overflow_add-node
overflow_add-node c =
    omega (arith, c.load_node-node.ensures.prim_count, few-prims c.args.arena.now c.args.name.now c.args.n c.requires.0)

pub overflow_add-node-2 : goal.overflow_add-node-2
overflow_add-node-2 c =
    let ends = end-joined (node_in c.args.arena.now c.args.n).path c.args.name.now c.joint-at.ensures c.path-old.ensures in
    omega (arith, ends, c.requires.0.fits)

pub overflow_add-node-3 : goal.overflow_add-node-3
overflow_add-node-3 c =
    let ends = end-joined (node_in c.args.arena.now c.args.n).path c.args.name.now c.joint-at.ensures c.path-old.ensures in
    omega (arith, ends, c.requires.0.fits)

pub overflow_cast-node : goal.overflow_cast-node
overflow_cast-node c =
    let ends = end-joined (node_in c.args.arena.now c.args.n).path c.args.name.now c.joint-at.ensures c.path-old.ensures in
    omega (arith, ends, c.requires.0.fits)

pub returns : goal.returns
returns c =
    let ends = end-joined (node_in c.args.arena.now c.args.n).path c.args.name.now c.joint-at.ensures c.path-old.ensures in
    let bs = c.args.arena.now in
    let name = c.args.name.now in
    let loaded = c.load_node-node.ensures in
    let joined = append_name (node_in bs c.args.n).path name in
    let end = c.joint-at.result + length name in
    record {
      first-child = loaded.first_child;
      last-child = loaded.last_child;
      next-sibling = loaded.next_sibling;
      counted = ap (λ (k : ℕ). k + 1) loaded.prim_count ∙ prims-raised bs name c.args.n c.requires.0;
      long = ap (λ (k : ℕ). 27 + k) ends;
      short = c.requires.0.fits;
      front = ap (take (27 + end - 27)) (c.put_joined.ensures
          ∙ ap (λ (p : List ℕ). append_name p name ++ drop end c.args.path.now) c.path-old.ensures)
          ∙ take_at joined (drop end c.args.path.now) (27 + end - 27) (omega (arith, ends));
      node = node-joined bs name c.args.n c.requires.0 c.load_node-node.result loaded;
    }
