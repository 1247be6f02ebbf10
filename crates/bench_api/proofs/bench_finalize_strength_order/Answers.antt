-- `bench_finalize_strength_order` meets its contract. Assumes nothing.
use Rattle.c_api.proofs.FinishLaws.{finalize-value, finishes-carried}
use Rattle.bench_api.proofs.bench_finalize_strength_order.Goals as goal

pub returns : goal.returns
returns c =
    finishes-carried (finalize-value _) c.carry.ensures c.finalize_strength_order.ensures
