-- `bench_seed_child` meets its contract. Assumes nothing.
use Rattle.c_api.proofs.FinishLaws.{finishes-carried}
use Rattle.bench_api.proofs.ReadLaws.{seed-value}
use Rattle.bench_api.proofs.bench_seed_child.Goals as goal

pub returns : goal.returns
returns c =
    finishes-carried (seed-value _ _ _) c.carry.ensures c.seed_child.ensures
