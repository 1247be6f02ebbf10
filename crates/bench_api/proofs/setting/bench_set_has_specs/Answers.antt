-- `bench_set_has_specs` meets its contract. Assumes nothing.
use Rattle.c_api.proofs.FinishLaws.{has-specs-value, finishes-carried}
use Rattle.bench_api.proofs.setting.bench_set_has_specs.Goals as goal

pub returns : goal.returns
returns c =
    finishes-carried (has-specs-value _ _ _) c.carry.ensures c.set_has_specs.ensures
