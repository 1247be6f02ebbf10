-- The ways that reading the whole order ends: refused (`list-refused`, `list-not-buffer`,
-- `list-not-ordered`) and written (`list_done`); and what is left of the questions of reading one
-- entry (`entry-left`). Assumes nothing.
use Rattle.std.specs.Prelude.{Err, Ok}
use mathlib.Core.Path.{◌≡◌, sym, ap, ◌∙◌}
use mathlib.Core.Bool.{true, false}
use mathlib.Core.List.{List, [], ◌∷◌}
use Prim.Native.Nat.{ℕ, ◌<◌}
use native.Mathlib.Omega.{arith}
use lib.Dec.{eqb, ltb}
use lib.ListN.{length}
use borrow.Author.Tests.{eq-eqb, ne_eqb, lt-ltb}
use Rattle.model.specs.Bytes.{stored}
use Rattle.model.specs.Graph.{size}
use Rattle.model.specs.Refusals.{refusal_number, ask, refusal}
use Rattle.model.specs.Calls.{has_node_zero, reads_order, reads_entry}
use Rattle.model.specs.Arena.{count_in, decode}
use Rattle.model.specs.ArenaCalls.{ValidArena, ValidNode, ask_arena}
use Rattle.model.specs.declared.Refusal.{Refusal}
use Rattle.model.specs.declared.Refusal.TheVariants.{Size, NotOrdered}
use Rattle.laws.proofs.ArenaCallLaws.{refusal-some, refused-before, answered-refused, answered-number, buffer-refused, buffer-passed}
use Rattle.arena.proofs.ReadNodes.{sizes}
use Rattle.validate.proofs.AskingLaws.{node-zero-passed}
use Rattle.ordering.specs.OrderReading.{entries_in, order_bytes, list_questions, OrderWritten}
use Rattle.ordering.proofs.OrderEntries.{order-entries, order-length}

module _ (bs out : List ℕ) where
  refused_as : (r : Refusal) → refusal_number r ≡ refusal (list_questions bs out) → OrderWritten bs out (Err r) out
  refused_as r e = record {
    answer = answered-refused (list_questions bs out) _ r e;
    bytes = rw (ne_eqb (refusal (list_questions bs out)) 0 (λ z. refusal-some r (e ∙ z)));
  }

  pub list-not-buffer : (length out ≡ 4096 → ⊥) → OrderWritten bs out (Err Size) out
  list-not-buffer h = refused_as Size (buffer-refused bs (eqb (length out) 4096) (reads_order (decode bs)) (ne_eqb (length out) 4096 h))

  module _ (large : length out ≡ 4096) where
    -- a buffer of the right size leaves the questions of a call that only reads
    list-asks : refusal (list_questions bs out) ≡ refusal (ask_arena bs (reads_order (decode bs)))
    list-asks = buffer-passed bs (eqb (length out) 4096) (reads_order (decode bs)) (eq-eqb (length out) 4096 large)

    -- by questions 1 to 3
    pub list-refused : (r : Refusal) → refusal_number r ≡ refusal (ask_arena bs (has_node_zero (decode bs) ∷ [])) → OrderWritten bs out (Err r) out
    list-refused r e =
        refused_as r (refused-before r (ask_arena bs (has_node_zero (decode bs) ∷ [])) (ask 10 (decode bs).ordered ∷ []) e ∙ sym list-asks)

    module _ (o : ValidArena bs) (some : 0 < count_in bs) where
      list_left : refusal (list_questions bs out) ≡ refusal (ask 10 (decode bs).ordered ∷ [])
      list_left = list-asks ∙ node-zero-passed bs (ask 10 (decode bs).ordered ∷ []) o some

      pub list-not-ordered : (decode bs).ordered ≡ false → OrderWritten bs out (Err NotOrdered) out
      list-not-ordered e = refused_as NotOrdered (sym (list_left ∙ rw e))

      pub list_done : (decode bs).ordered ≡ true → (n : ℕ) (after : List ℕ) → n ≡ count_in bs → after ≡ stored 0 (order_bytes (entries_in bs)) out
          → OrderWritten bs out (Ok n) after
      list_done e n after c a =
          let passes : refusal (list_questions bs out) ≡ 0 = list_left ∙ rw e in
          record {
            answer = answered-number (list_questions bs out) _ n passes (c ∙ sym (order-length bs e));
            bytes = rw (eq-eqb (refusal (list_questions bs out)) 0 passes) (a ∙ ap (λ (l : List ℕ). stored 0 (order_bytes l) out) (sym (order-entries bs e)));
          }

-- of a place below the count
pub entry-left : (bs : List ℕ) (place : ℕ) → ValidNode bs place → refusal (ask_arena bs (reads_entry (decode bs) place)) ≡ refusal (ask 10 (decode bs).ordered ∷ [])
entry-left bs place r =
    let below = lt-ltb place (size (decode bs)) (omega (arith, r.below, sizes bs r.opened)) in
    node-zero-passed bs (ask 4 (ltb place (size (decode bs))) ∷ ask 10 (decode bs).ordered ∷ []) r.opened (omega (arith, r.below)) ∙ rw below
