-- `write_records` meets its contract. The loop's invariant is `Copied`: the first n records stand
-- behind the front, and end at `at`. Assumes nothing.
use mathlib.Core.Path.{◌≡◌}
use mathlib.Core.List.{List}
use Prim.Native.Nat.{ℕ, ◌+◌, ◌≤◌, ◌<◌}
use native.Mathlib.Omega.{arith}
use lib.ListN.{length}
use Rattle.model.specs.Arena.{count_in}
use Rattle.laws.proofs.BigEndianLaws.{Bytes}
use Rattle.laws.proofs.StoredLaws.{bytes-by-place}
use Rattle.snapshot.specs.Writing.{CanWrite}
use Rattle.snapshot.proofs.WriterLaws.{Copied, slot_record, has-record, copied_none, copied_more, copied_all, piece-fits}
use Rattle.snapshot.proofs.writer.write_records.Goals as goal

-- the next record has room
fits : {bs out after : List ℕ} {at n count : ℕ} {piece : List ℕ} → Bytes bs → CanWrite bs out → Copied bs out after at n → count ≡ count_in bs
    → n < count → piece ≡ slot_record bs n → at + length piece ≤ 62471
fits bytes can copied counted here e = piece-fits _ _ bytes can _ _ _ copied (omega arith) _ e

pub loop-n-init : goal.loop-n-init
loop-n-init c = copied_none _ _ (bytes-by-place _ (λ k. (c.type_inv.arena k).fits)) c.requires

pub record-record-requires : goal.record-record-requires
record-record-requires c =
    let here : c.loop-n.n < count_in c.args.arena.now = omega (arith, c.loop-n-test.true, c.count-count.ensures) in
    has-record _ _ (bytes-by-place _ (λ k. (c.type_inv.arena k).fits)) c.requires c.loop-n.n here

pub write_bytes-requires : goal.write_bytes-requires
write_bytes-requires c =
    let room = fits (bytes-by-place _ (λ k. (c.type_inv.arena k).fits)) c.requires c.loop-n.invariant c.count-count.ensures c.loop-n-test.true
    c.record-record.ensures in
    omega (arith, room, c.requires.large)

pub overflow_add-at : goal.overflow_add-at
overflow_add-at c =
    let room = fits (bytes-by-place _ (λ k. (c.type_inv.arena k).fits)) c.requires c.loop-n.invariant c.count-count.ensures c.loop-n-test.true
    c.record-record.ensures in
    omega (arith, room)

pub loop-n-preserved : goal.loop-n-preserved
loop-n-preserved c =
    let here : c.loop-n.n < count_in c.args.arena.now = omega (arith, c.loop-n-test.true, c.count-count.ensures) in
    copied_more _ _ (bytes-by-place _ (λ k. (c.type_inv.arena k).fits)) c.requires _ _ _ c.loop-n.invariant here c.record-record.result.now
    c.record-record.ensures _ c.write_bytes.ensures

pub returns : goal.returns
returns c =
    let end : c.loop-n.n ≡ count_in c.args.arena.now = omega (arith, c.loop-n-test.false, c.loop-n.auto.n-end, c.count-count.ensures) in
    let all = copied_all _ _ (bytes-by-place _ (λ k. (c.type_inv.arena k).fits)) c.requires _ _ _ c.loop-n.invariant end in
    record { value = all.0; out_after = all.1 }
