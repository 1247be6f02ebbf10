-- `bench_set_restriction_depth` meets its contract. Assumes nothing.
use Rattle.c_api.proofs.FinishLaws.{restriction-value, finishes-carried}
use Rattle.bench_api.proofs.setting.bench_set_restriction_depth.Goals as goal

pub returns : goal.returns
returns c =
    finishes-carried (restriction-value _ _ _) c.carry.ensures c.set_restriction_depth.ensures
