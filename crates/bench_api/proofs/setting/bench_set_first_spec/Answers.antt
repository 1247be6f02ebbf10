-- `bench_set_first_spec` meets its contract. Assumes nothing.
use Rattle.c_api.proofs.FinishLaws.{first-spec-value, finishes-carried}
use Rattle.bench_api.proofs.setting.bench_set_first_spec.Goals as goal

pub returns : goal.returns
returns c =
    finishes-carried (first-spec-value _ _ _) c.carry.ensures c.set_first_spec.ensures
