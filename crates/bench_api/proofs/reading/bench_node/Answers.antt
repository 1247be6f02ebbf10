-- The first child of the node that is read. Assumes nothing.
use Rattle.bench_api.proofs.ReadLaws.{accepted-number}
use Rattle.bench_api.proofs.reading.bench_node.Goals as goal

pub returns-in-Ok : goal.returns-in-Ok
returns-in-Ok c =
    accepted-number c.in-Ok.ensures.refused c.in-Ok.ensures.node.first-child
