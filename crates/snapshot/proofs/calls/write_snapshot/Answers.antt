-- `write_snapshot` meets its contract: question 1 of the buffer, and where questions 1 and 2 of the
-- arena pass, the writer. Assumes nothing.
use Rattle.std.proofs.lemmas.Result.{err_from_is_err_and}
use mathlib.Core.Path.{sym}
use mathlib.Core.List.{[]}
use Rattle.laws.proofs.ArenaCallLaws.{passed-opened}
use Rattle.snapshot.proofs.SnapshotCallLaws.{write-not-buffer, write-refused, written}
use Rattle.snapshot.proofs.calls.write_snapshot.Goals as goal

pub returns-then-out-ne-SNAPSHOT_BYTES : goal.returns-then-out-ne-SNAPSHOT_BYTES
returns-then-out-ne-SNAPSHOT_BYTES c =
    write-not-buffer _ _ c.if-out-ne-SNAPSHOT_BYTES.true

pub write_snapshot-requires : goal.write_snapshot-requires
write_snapshot-requires c =
    record { opened = passed-opened _ [] (sym c.in_ok-ask_graph.ensures); large = c.if-out-ne-SNAPSHOT_BYTES.false }

pub returns : goal.returns
returns c =
    let wrote = c.write_snapshot.ensures in
    written _ _ c.if-out-ne-SNAPSHOT_BYTES.false (sym c.in_ok-ask_graph.ensures) _ _ wrote.value wrote.out_after

pub returns-in_err-ask_graph : goal.returns-in_err-ask_graph
returns-in_err-ask_graph c =
    let p = err_from_is_err_and c.from_residual.result c.from_residual.ensures.1 in
    rw (p.1, p.2) (
    write-refused _ _ c.if-out-ne-SNAPSHOT_BYTES.false c.in_err-ask_graph.field-0.0 c.in_err-ask_graph.ensures)
