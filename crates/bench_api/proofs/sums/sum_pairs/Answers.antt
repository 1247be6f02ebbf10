-- One pair more in the sum, of pairs that have all passed.
use native.Mathlib.Omega.{arith}
use mathlib.Core.Path.{ap₂, ◌∙◌}
use Prim.Native.Nat.{◌/◌}
use lib.ListN.{length}
use Rattle.bench_api.specs.Pairs.{pair_refused, comparison}
use Rattle.bench_api.proofs.PairLaws.{passed, each-passed, one-more-added}
use Rattle.bench_api.proofs.sums.sum_pairs.Goals as goal

pub local_root-root-requires : goal.local_root-root-requires
local_root-root-requires c =
    (passed _ _ _ c.requires).opened.whole

pub compare_pair-requires : goal.compare_pair-requires
compare_pair-requires c =
    let all = passed _ _ _ c.requires in
    let refused = pair_refused c.args.siblings c.args.arena.now in (
      all.opened,
      c.local_root-root.ensures,
      ap₂ refused c.pair-a.ensures.first c.pair-a.ensures.second
          ∙ each-passed refused c.args.pairs.now (length c.args.pairs.now / 8) c.loop-i.i all.pairs c.loop-i-test.true,
    )

pub overflow_add-sum : goal.overflow_add-sum
overflow_add-sum c =
    omega (arith, (passed _ _ _ c.requires).few, c.loop-i-test.true, c.loop-i.invariant.small)

pub loop-i-preserved : goal.loop-i-preserved
loop-i-preserved c = record {
  added = one-more-added (comparison c.args.siblings c.args.arena.now) c.args.pairs.now c.loop-i.i
      c.loop-i.invariant.added c.pair-a.ensures.first c.pair-a.ensures.second
      c.compare_pair.ensures c.ordering_number.ensures;
  small = omega (arith, c.loop-i.invariant.small);
}
