-- The ways that the two calls on snapshots end: `read-not-arena`, `read-into`, and those of
-- writing. Assumes nothing.
use Rattle.std.specs.Prelude.{Err, Ok, Result}
use mathlib.Core.Path.{◌≡◌, sym, ◌∙◌}
use mathlib.Core.List.{List, []}
use Prim.Native.Nat.{ℕ}
use lib.Dec.{eqb}
use lib.ListN.{length}
use borrow.Author.Tests.{eq-eqb, ne_eqb}
use Rattle.model.specs.Bytes.{stored}
use Rattle.model.specs.Snapshot.{write_snapshot}
use Rattle.model.specs.Refusals.{refusal_number, refusal}
use Rattle.model.specs.Calls.{Outcome}
use Rattle.model.specs.Arena.{arena_bytes, decode}
use Rattle.model.specs.ArenaCalls.{into_arena, Wrote, ask_arena}
use Rattle.model.specs.declared.Refusal.{Refusal}
use Rattle.model.specs.declared.Refusal.TheVariants.{Size}
use Rattle.laws.proofs.ArenaCallLaws.{refusal-some, answered-refused, answered-number, buffer-refused, buffer-passed, wrote-refused}
use Rattle.snapshot.specs.Snapshots.{write_questions, SnapshotWritten}

module _ (o : Outcome) (bs : List ℕ) where
  pub read-not-arena : (length bs ≡ arena_bytes → ⊥) → Wrote (into_arena o bs) bs (Err Size) bs
  unfolding into_arena
  read-not-arena h =
      let e = ne_eqb (length bs) arena_bytes h in
      wrote-refused bs (into_arena o bs) Size (rw e) (rw e)

  pub read-into : (r : Result ℕ Refusal) (after : List ℕ) → length bs ≡ arena_bytes → Wrote o bs r after → Wrote (into_arena o bs) bs r after
  unfolding into_arena
  read-into r after h w = rw (eq-eqb (length bs) arena_bytes h) w

module _ (bs out : List ℕ) where
  refused_as : (r : Refusal) → refusal_number r ≡ refusal (write_questions bs out) → SnapshotWritten bs out (Err r) out
  refused_as r e = record {
    answer = answered-refused (write_questions bs out) _ r e;
    bytes = rw (ne_eqb (refusal (write_questions bs out)) 0 (λ z. refusal-some r (e ∙ z)));
  }

  pub write-not-buffer : (length out ≡ 65536 → ⊥) → SnapshotWritten bs out (Err Size) out
  write-not-buffer h = refused_as Size (buffer-refused bs (eqb (length out) 65536) [] (ne_eqb (length out) 65536 h))

  module _ (large : length out ≡ 65536) where
    -- a buffer of the right size leaves the questions of the arena
    write-asks : refusal (write_questions bs out) ≡ refusal (ask_arena bs [])
    write-asks = buffer-passed bs (eqb (length out) 65536) [] (eq-eqb (length out) 65536 large)

    pub write-refused : (r : Refusal) → refusal_number r ≡ refusal (ask_arena bs []) → SnapshotWritten bs out (Err r) out
    write-refused r e = refused_as r (e ∙ sym write-asks)

    pub written : refusal (ask_arena bs []) ≡ 0 → (n : ℕ) (after : List ℕ) → n ≡ length (write_snapshot (decode bs))
        → after ≡ stored 0 (write_snapshot (decode bs)) out → SnapshotWritten bs out (Ok n) after
    written e n after c a =
        let passes : refusal (write_questions bs out) ≡ 0 = write-asks ∙ e in
        record {
          answer = answered-number (write_questions bs out) _ n passes c;
          bytes = rw (eq-eqb (refusal (write_questions bs out)) 0 passes) a;
        }
