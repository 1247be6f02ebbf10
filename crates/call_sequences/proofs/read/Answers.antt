-- `read` makes the call `reading`, by `read_snapshot`'s contract. Assumes nothing.
use Rattle.call_sequences.proofs.StepTies.{read-snapshot-reads}
use Rattle.call_sequences.proofs.read.Goals as goal

pub read_snapshot-requires : goal.read_snapshot-requires
read_snapshot-requires c =
    tt

pub shape_of-arena : goal.shape_of-arena
shape_of-arena c =
    c.read_snapshot.auto.arena

pub returns : goal.returns
returns c =
    read-snapshot-reads _ _ _ _ c.read_snapshot.ensures
