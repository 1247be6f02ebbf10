-- `bench_cull` meets its contract. Assumes nothing.
use Rattle.c_api.proofs.FinishLaws.{cull-value, finishes-carried}
use Rattle.bench_api.proofs.bench_cull.Goals as goal

pub returns : goal.returns
returns c =
    finishes-carried (cull-value _) c.carry.ensures c.cull_subtrees_without_opinions.ensures
