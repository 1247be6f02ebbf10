-- `move_records` meets its contract. The invariant of its loop: the kept of the nodes below `from`
-- have moved (`Moving`). Assumes nothing.
use mathlib.Core.Path.{ap, ◌∙◌}
use native.Mathlib.Omega.{arith}
use lib.ListN.{length}
use Rattle.laws.proofs.BigEndianLaws.{Bytes}
use Rattle.laws.proofs.StoredLaws.{bytes-by-place}
use Rattle.erasing.proofs.ErasedRecords.{few-nodes}
use Rattle.erasing.proofs.MoveLaws.{moving-path, moving-slot, moving-kept, moving-gone}
use Rattle.erasing.proofs.records.move_records.Goals as goal
use Rattle.erasing.proofs.records.move_records.Goals.{then-set-from-eq0, else-set-from-eq0}

pub bounds-set-from : goal.bounds-set-from
bounds-set-from c =
    let bytes : Bytes c.args.arena.now =
    bytes-by-place c.args.arena.now (λ k. (c.slice_known-1.given k).fits) in
    omega (arith, c.loop-from-test, few-nodes _ _ _ _ bytes c.requires, c.requires.long)

pub bounds-numbers-from : goal.bounds-numbers-from
bounds-numbers-from c =
    let bytes : Bytes c.args.arena.now =
    bytes-by-place c.args.arena.now (λ k. (c.slice_known-1.given k).fits) in
    omega (arith, c.loop-from-test, few-nodes _ _ _ _ bytes c.requires, c.requires.numbered.long)

pub move_record-requires : goal.move_record-requires
move_record-requires c =
    let bytes : Bytes c.args.arena.now =
    bytes-by-place c.args.arena.now (λ k. (c.slice_known-1.given k).fits) in
    let stays = c.if-set-from-eq0.true in record {
      has_path = (
        moving-path _ _ _ _ bytes c.requires _ _ c.loop-from.invariant.0 c.loop-from-test.true stays,
        moving-slot _ _ _ _ bytes c.requires _ _ c.loop-from.invariant.0 c.loop-from-test.true stays,
        c.loop-from.invariant.1,
      );
      numbers_len = (c.requires.numbered.long, few-nodes _ _ _ _ bytes c.requires);
    }

pub loop-from-preserved : goal.loop-from-preserved
loop-from-preserved c =
    let bytes : Bytes c.args.arena.now =
    bytes-by-place c.args.arena.now (λ k. (c.slice_known-1.given k).fits) in
    elim c.if-set-from-eq0.branch [
      | then-set-from-eq0 w ↦ (
        rw w.arena-is (moving-kept _ _ _ _ bytes c.requires _ _ c.loop-from.invariant.0 c.loop-from-test.true w.if-set-from-eq0.true _ w.move_record.auto.arena
            w.move_record.ensures),
        ap length w.path-is ∙ w.move_record.auto.path ∙ c.loop-from.invariant.1,
      )
      | else-set-from-eq0 w ↦ (
        rw w.arena-is (moving-gone _ _ _ _ bytes c.requires _ _ c.loop-from.invariant.0 c.loop-from-test.true w.if-set-from-eq0.false),
        ap length w.path-is ∙ c.loop-from.invariant.1,
      )
    ]
