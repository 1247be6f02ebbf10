-- `write_snapshot` meets its contract: the records and the front before them are the snapshot,
-- which fits. Assumes nothing.
use mathlib.Core.Path.{sym, ◌∙◌}
use native.Mathlib.Omega.{arith}
use Rattle.model.specs.Arena.{decode}
use Rattle.laws.proofs.BigEndianLaws.{Bytes}
use Rattle.laws.proofs.StoredLaws.{bytes-by-place}
use Rattle.snapshot.proofs.WriterLaws.{counted, few, snapshot-short, snapshot-stored, snapshot-length}
use Rattle.snapshot.proofs.writer.write_snapshot.Goals as goal

pub overflow_cast-end : goal.overflow_cast-end
overflow_cast-end c =
    let arena-bytes : Bytes c.args.arena.now =
    bytes-by-place c.args.arena.now (λ k. (c.type_inv.arena k).fits) in
    omega (arith, c.write_records-end.ensures.value, snapshot-short _ _ arena-bytes c.requires)

pub overflow_cast-count : goal.overflow_cast-count
overflow_cast-count c =
    let arena-bytes : Bytes c.args.arena.now =
    bytes-by-place c.args.arena.now (λ k. (c.type_inv.arena k).fits) in
    omega (arith, counted _ _ arena-bytes c.requires, few _ _ arena-bytes c.requires)

pub returns : goal.returns
returns c =
    let arena-bytes : Bytes c.args.arena.now =
    bytes-by-place c.args.arena.now (λ k. (c.type_inv.arena k).fits) in
    let copied = c.write_records-end.ensures in record { value = copied.value ∙ sym (snapshot-length (decode c.args.arena.now)); out_after = snapshot-stored _ _ arena-bytes c.requires _ _ _ _ copied.value copied.out_after c.count.ensures c.write_front.ensures }
