-- `fill` meets its contract. The loop's invariant is `Filled`: the arena is the encoding of the
-- graph of the first n records. Assumes nothing.
use native.Mathlib.Omega.{arith}
use Rattle.laws.proofs.StoredLaws.{bytes-by-place}
use Rattle.laws.proofs.SnapshotReadLaws.{grows-size}
use Rattle.snapshot.specs.SnapshotReading.{nodes_read}
use Rattle.snapshot.proofs.SnapshotRecords.{numbered, record-here}
use Rattle.snapshot.proofs.SnapshotFill.{grow, filled_none, filled-all, can-append-record, filled_more, nodes-fit}
use Rattle.snapshot.proofs.fill.fill.Goals as goal

pub loop-n-init : goal.loop-n-init
loop-n-init c =
    filled_none _ _ _ _ c.requires.exact c.requires.whole c.clear.ensures

pub record_at-record-requires : goal.record_at-record-requires
record_at-record-requires c =
    record-here _ _ _ c.loop-n.invariant.reached (numbered c.requires.exact c.loop-n-test.true)

pub bounds-prims-n : goal.bounds-prims-n
bounds-prims-n c =
    let here = numbered c.requires.exact c.loop-n-test.true in
    omega (arith, here, grows-size (nodes_read c.args.bytes.now) (grow _ _ c.requires.exact c.requires.accepted), c.requires.long)

pub append_record-requires : goal.append_record-requires
append_record-requires c =
    let here = numbered c.requires.exact c.loop-n-test.true in
    can-append-record _ _ _ _ _ c.loop-n.invariant (grow _ _ c.requires.exact c.requires.accepted) here c.record_at-record.result.now
    c.record_at-record.ensures _ (c.requires.named _ here)

pub loop-n-preserved : goal.loop-n-preserved
loop-n-preserved c =
    filled_more _ _ _ _ _ c.loop-n.invariant (grow _ _ c.requires.exact c.requires.accepted) (numbered c.requires.exact c.loop-n-test.true)
    c.record_at-record.result.now c.record_at-record.ensures
    (nodes-fit _ _ (bytes-by-place c.args.bytes.now (λ k. (c.type_inv.bytes k).fits)) c.requires.exact) _ c.append_record.ensures

pub returns : goal.returns
returns c =
    filled-all _ _ _ _ _ c.loop-n.invariant _ c.requires.whole c.clear.ensures _ c.requires.exact c.requires.accepted
    (omega (arith, c.loop-n-test.false, c.requires.exact.counted))
