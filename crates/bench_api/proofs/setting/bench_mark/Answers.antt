-- `bench_mark` meets its contract. Assumes nothing.
use Rattle.c_api.proofs.FinishLaws.{mark-value, finishes-carried}
use Rattle.bench_api.proofs.setting.bench_mark.Goals as goal

pub returns : goal.returns
returns c =
    finishes-carried (mark-value _ _ _) c.carry.ensures c.mark.ensures
