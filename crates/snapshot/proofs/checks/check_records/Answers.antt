-- `check_records` meets its contract. The loop's invariant is `CheckedTo`: the records from here on
-- are refused as all of them are. Assumes nothing.
use Rattle.std.proofs.lemmas.Result.{err_from_is_err_and}
use native.Mathlib.Omega.{arith}
use Rattle.snapshot.proofs.SnapshotRecords.{numbered, record-here, piece-long}
use Rattle.snapshot.proofs.CheckLaws.{checked-none, refused-here, checked-more}
use Rattle.snapshot.proofs.checks.check_records.Goals as goal

pub loop-n-init : goal.loop-n-init
loop-n-init c =
    checked-none _ _ _ c.requires.exact c.requires.prims_len

pub record_at-record-requires : goal.record_at-record-requires
record_at-record-requires c =
    record-here _ _ _ c.loop-n.invariant.reached (numbered c.requires.exact c.loop-n-test.true)

pub check_one-requires-clause-in_bounds : goal.check_one-requires-clause-in_bounds
check_one-requires-clause-in_bounds c =
    let long = piece-long _ _ _ c.loop-n.invariant.reached (numbered c.requires.exact c.loop-n-test.true) _ c.record_at-record.ensures in
    (long.0, c.loop-n.invariant.few_bytes)

pub returns-in_err-prim_count : goal.returns-in_err-prim_count
returns-in_err-prim_count c =
    let p = err_from_is_err_and c.from_residual.result c.from_residual.ensures.1 in
    rw (p.1, p.2) (
    refused-here _ _ _ _ _ _ c.loop-n.invariant (numbered c.requires.exact c.loop-n-test.true) c.record_at-record.result.now c.record_at-record.ensures
    c.check_one.result c.check_one.ensures _ c.in_err-prim_count.was)

pub bounds-record-0 : goal.bounds-record-0
bounds-record-0 c =
    let long = piece-long _ _ _ c.loop-n.invariant.reached (numbered c.requires.exact c.loop-n-test.true) _ c.record_at-record.ensures in
    omega (arith, long.0)

pub overflow_sub-path_bytes : goal.overflow_sub-path_bytes
overflow_sub-path_bytes c =
    let long = piece-long _ _ _ c.loop-n.invariant.reached (numbered c.requires.exact c.loop-n-test.true) _ c.record_at-record.ensures in
    omega (arith, long.0)

pub loop-n-preserved : goal.loop-n-preserved
loop-n-preserved c =
    rw c.with_root-has_root.ensures
    (checked-more _ _ _ _ _ _ c.loop-n.invariant (numbered c.requires.exact c.loop-n-test.true) c.record_at-record.result.now c.record_at-record.ensures
    c.check_one.result c.check_one.ensures _ c.in_ok-prim_count.was)
