-- `bench_append_child_name_to_all_sites` meets its contract. Assumes nothing.
use Rattle.c_api.proofs.FinishLaws.{append-value, finishes-carried}
use Rattle.bench_api.proofs.bench_append_child_name_to_all_sites.Goals as goal

pub returns : goal.returns
returns c =
    finishes-carried (append-value _ _) c.carry.ensures c.append_child_name_to_all_sites.ensures
