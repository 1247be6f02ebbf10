-- `paths_fit` meets its contract. The invariant of its loop: with the sum so far, the paths from
-- node n on decide question 7. Assumes nothing.
use mathlib.Core.Path.{◌≡◌, ap, ◌∙◌}
use mathlib.Core.List.{List}
use Prim.Native.Nat.{ℕ, ◌+◌, ◌<◌}
use native.Mathlib.Omega.{arith}
use Rattle.model.specs.Arena.{count_in, node_in}
use Rattle.model.specs.ArenaCalls.{ValidArena, ValidNode}
use Rattle.arena.proofs.ReadNodes.{has-path}
use Rattle.arena.proofs.SlotLaws.{path-length}
use Rattle.path.proofs.JoinLaws.{separator-short, length-append-name}
use Rattle.deepening.proofs.DeepenedFits.{fit_from, fit-start, fit-step, fit-long}
use Rattle.deepening.proofs.DeepenedSites.{end-joined}
use Rattle.deepening.proofs.appending.paths_fit.Goals as goal

reads-node : {bs : List ℕ} {count n : ℕ} → ValidArena bs → count ≡ count_in bs → n < count → ValidNode bs n
reads-node opened counted more = record { opened = opened; below = omega arith }

pub loop-n-init : goal.loop-n-init
loop-n-init c =
    record { small = omega arith; decides = fit-start c.args.arena.now c.args.name.now }

pub path-requires : goal.path-requires
path-requires c =
    has-path _ _ (reads-node c.requires c.count-count.ensures c.loop-n-test.true)

pub overflow_add-end : goal.overflow_add-end
overflow_add-end c =
    let n = c.loop-n.n in
    let path = (node_in c.args.arena.now n).path in
    let here = has-path _ _ (reads-node c.requires c.count-count.ensures c.loop-n-test.true) in
    let end = end-joined path c.args.name.now c.joint.ensures c.path.ensures in
    omega (
      arith,
      c.well_formed.1.0,
      end,
      length-append-name path c.args.name.now,
      separator-short path,
      path-length c.args.arena.now n here,
      here.short,
    )

pub returns-then-end-gt255 : goal.returns-then-end-gt255
returns-then-end-gt255 c =
    let end = end-joined (node_in c.args.arena.now c.loop-n.n).path c.args.name.now c.joint.ensures c.path.ensures in
    fit-long c.args.arena.now c.args.name.now c.loop-n.sum c.loop-n.n (omega arith) (omega (arith, end, c.if-end-gt255.true))
    ∙ c.loop-n.invariant.decides

pub loop-n-preserved : goal.loop-n-preserved
loop-n-preserved c =
    let end = end-joined (node_in c.args.arena.now c.loop-n.n).path c.args.name.now c.joint.ensures c.path.ensures in
    record {
      small = omega (arith, c.loop-n.invariant.small, c.if-end-gt255.false);
      decides = ap (λ (k : ℕ). fit_from c.args.arena.now c.args.name.now (c.loop-n.sum + k) (c.loop-n.n + 1)) end
          ∙ fit-step c.args.arena.now c.args.name.now c.loop-n.sum c.loop-n.n (omega arith) (omega (arith, end, c.if-end-gt255.false))
          ∙ c.loop-n.invariant.decides;
    }
