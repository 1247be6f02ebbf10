-- `read_snapshot` meets its contract: question 1, and then the reader. Assumes nothing.
use Rattle.snapshot.proofs.SnapshotCallLaws.{read-not-arena, read-into}
use Rattle.snapshot.proofs.calls.read_snapshot.Goals as goal

pub returns-then-arena-ne-ARENA_BYTES : goal.returns-then-arena-ne-ARENA_BYTES
returns-then-arena-ne-ARENA_BYTES c =
    read-not-arena _ _ c.if-arena-ne-ARENA_BYTES.true

pub read_snapshot-requires : goal.read_snapshot-requires
read_snapshot-requires c =
    c.if-arena-ne-ARENA_BYTES.false

pub returns : goal.returns
returns c =
    read-into _ _ _ _ c.if-arena-ne-ARENA_BYTES.false c.read_snapshot.ensures
