-- `check_lengths` meets its contract: each field of the front that is missing or wrong refuses, and
-- the records are asked the rest. Assumes nothing.
use mathlib.Core.Path.{◌≡◌, sym, ap, ◌∙◌}
use Prim.Native.Nat.{◌+◌, ◌≤◌}
use native.Mathlib.Omega.{arith}
use lib.ListN.{length, drop}
use Rattle.model.specs.Snapshot.{field, read_records}
use Rattle.snapshot.specs.SnapshotReading.{counted_as}
use Rattle.snapshot.proofs.FieldLaws.{taken, not_taken, Front, front-right, front-wrong}
use Rattle.snapshot.proofs.checks.check_lengths.Goals as goal

pub returns-in_default : goal.returns-in_default
returns-in_default c =
    let bytes = c.args.bytes.now in
    let short = not_taken 0 4 bytes (sym c.take_u32.ensures ∙ c.in_default.is) in
    front-wrong bytes (λ front. omega (arith, front.header))

pub returns-then-following-bytes : goal.returns-then-following-bytes
returns-then-following-bytes c =
    let bytes = c.args.bytes.now in
    let following : (0 + 4 ≤ length bytes) × (c.in-Some.following ≡ field 0 4 bytes) =
    taken 0 4 bytes _ (sym c.take_u32.ensures ∙ c.in-Some.is) in
    front-wrong bytes (λ front. c.if-following-bytes.true (ap (λ n. 4 + n) following.1 ∙ front.counted))

pub returns-in_default-take_u8 : goal.returns-in_default-take_u8
returns-in_default-take_u8 c =
    let bytes = c.args.bytes.now in
    let short = not_taken 4 1 bytes (sym c.take_u8.ensures ∙ c.in_default-take_u8.is) in
    front-wrong bytes (λ front. omega (arith, front.header))

pub returns-then-version-ne1 : goal.returns-then-version-ne1
returns-then-version-ne1 c =
    let bytes = c.args.bytes.now in
    let version : (4 + 1 ≤ length bytes) × (c.in-Some-take_u8.version ≡ field 4 1 bytes) =
    taken 4 1 bytes _ (sym c.take_u8.ensures ∙ c.in-Some-take_u8.is) in
    front-wrong bytes (λ front. c.if-version-ne1.true (version.1 ∙ front.version))

pub returns-in_default-take_u16 : goal.returns-in_default-take_u16
returns-in_default-take_u16 c =
    let bytes = c.args.bytes.now in
    let short = not_taken 5 2 bytes (sym c.take_u16.ensures ∙ c.in_default-take_u16.is) in
    front-wrong bytes (λ front. omega (arith, front.header))

pub returns : goal.returns
returns c =
    let bytes = c.args.bytes.now in
    let following : (0 + 4 ≤ length bytes) × (c.in-Some.following ≡ field 0 4 bytes) =
    taken 0 4 bytes _ (sym c.take_u32.ensures ∙ c.in-Some.is) in
    let version : (4 + 1 ≤ length bytes) × (c.in-Some-take_u8.version ≡ field 4 1 bytes) =
    taken 4 1 bytes _ (sym c.take_u8.ensures ∙ c.in-Some-take_u8.is) in
    let count : (5 + 2 ≤ length bytes) × (c.in-Some-take_u16.count ≡ field 5 2 bytes) =
    taken 5 2 bytes _ (sym c.take_u16.ensures ∙ c.in-Some-take_u16.is) in
    let front : Front bytes = record {
      header = omega (arith, count.0);
      counted = ap (λ n. 4 + n) (sym following.1) ∙ c.if-following-bytes.false;
      version = sym version.1 ∙ c.if-version-ne1.false;
    } in
    c.check_record_lengths.ensures ∙ ap (λ n. counted_as (read_records n (drop 7 bytes))) count.1
    ∙ ap counted_as (sym (front-right bytes front))
