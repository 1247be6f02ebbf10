-- The ways that ordering a graph ends: refused (`finalize-refused`, `no-order`) and done
-- (`finalize-again`, `finalize-done`). Assumes nothing.
use Rattle.std.specs.Prelude.{Err, Ok}
use mathlib.Core.Path.{◌≡◌, refl, sym, ap, ◌∙◌}
use mathlib.Core.Bool.{Bool, true, false, ◌||◌, cond}
use mathlib.Core.List.{List, [], ◌∷◌}
use Prim.Native.Nat.{ℕ, ◌<◌}
use lib.Dec.{eqb}
use borrow.Author.Tests.{eq-eqb, ne_eqb}
use Rattle.model.specs.Graph.{Graph}
use Rattle.model.specs.Order.{has_order, ordering}
use Rattle.model.specs.Refusals.{refusal_number, Question, ask, refusal}
use Rattle.model.specs.Calls.{decided, has_node_zero, finalize_strength_order}
use Rattle.model.specs.Arena.{count_in, finalized_in, decode, encode}
use Rattle.model.specs.ArenaCalls.{ValidArena, on_arena, ask_arena}
use Rattle.model.specs.declared.Refusal.{Refusal}
use Rattle.model.specs.declared.Refusal.TheVariants.{NoOrder}
use Rattle.laws.proofs.BigEndianLaws.{Bytes}
use Rattle.laws.proofs.ArenaCallLaws.{refused-before, on-arena-asks, finishes-refused, finishes-done}
use Rattle.arena.proofs.ArenaBack.{encode-decode}
use Rattle.validate.proofs.AskingLaws.{node-zero-passed}
use Rattle.ordering.specs.Ordering.{OrderedArena}
use Rattle.ordering.specs.Finalizing.{Finalized}

finalized-read : (bs : List ℕ) → (decode bs).finalized ≡ eqb (finalized_in bs) 1
unfolding decode
finalized-read bs = refl

abbrev finalize_questions : Graph → List Question
finalize_questions g = has_node_zero g ∷ ask 9 (g.finalized || has_order g) ∷ []

module _ (bs : List ℕ) where
  -- questions 1 and 2 and the call's own, in one list
  abbrev asked : List Question
  asked = ask_arena bs (finalize_questions (decode bs))

  abbrev result : Bool → Graph
  result finalized = cond finalized (decode bs) (ordering (decode bs))

  finalize-asks : on_arena finalize_strength_order bs ≡ decided asked (decode bs) 0 (result (decode bs).finalized)
  unfolding finalize_strength_order
  finalize-asks = on-arena-asks bs finalize_strength_order (finalize_questions (decode bs)) 0 (result (decode bs).finalized) refl

  refused-by : (r : Refusal) → refusal_number r ≡ refusal asked → Finalized bs (Err r) bs
  refused-by r e = rw finalize-asks (finishes-refused asked (decode bs) 0 (result (decode bs).finalized) bs r e)

  -- by questions 1 to 3
  pub finalize-refused : (r : Refusal) → refusal_number r ≡ refusal (ask_arena bs (has_node_zero (decode bs) ∷ [])) → Finalized bs (Err r) bs
  finalize-refused r e =
      refused-by r (refused-before r (ask_arena bs (has_node_zero (decode bs) ∷ [])) (ask 9 ((decode bs).finalized || has_order (decode bs)) ∷ []) e)

module _ (bs : List ℕ) (o : ValidArena bs) (some : 0 < count_in bs) where
  order-left : refusal (asked bs) ≡ refusal (ask 9 ((decode bs).finalized || has_order (decode bs)) ∷ [])
  order-left = node-zero-passed bs (ask 9 ((decode bs).finalized || has_order (decode bs)) ∷ []) o some

  -- where every question passes
  done : ((decode bs).finalized || has_order (decode bs)) ≡ true → (finalized : Bool) → (decode bs).finalized ≡ finalized → (after : List ℕ)
      → after ≡ encode (result bs finalized) bs → Finalized bs (Ok tt) after
  done passes finalized e after a =
      rw (finalize-asks bs)
      (finishes-done (asked bs) (decode bs) 0 (result bs (decode bs).finalized) bs after (order-left ∙ rw passes)
      (a ∙ ap (λ (t : Bool). encode (result bs t) bs) (sym e)))

  -- question 9 is not asked, and nothing changes
  pub finalize-again : Bytes bs → finalized_in bs ≡ 1 → Finalized bs (Ok tt) bs
  finalize-again bytes f =
      let marked : (decode bs).finalized ≡ true = finalized-read bs ∙ eq-eqb (finalized_in bs) 1 f in
      done (rw marked) true marked bs (sym (encode-decode bs bytes o.whole o.holds))

  module _ (f : finalized_in bs ≡ 1 → ⊥) where
    unmarked : (decode bs).finalized ≡ false
    unmarked = finalized-read bs ∙ ne_eqb (finalized_in bs) 1 f

    order-asked : (t : Bool) → has_order (decode bs) ≡ t → ((decode bs).finalized || has_order (decode bs)) ≡ t
    order-asked t e = ap (λ (b : Bool). b || has_order (decode bs)) unmarked ∙ e

    -- question 9 is asked by ordering, which says whether there is an order and writes it
    module _ (answer : Bool) (after : List ℕ) (ordered : OrderedArena bs answer after) where
      bytes_of : (t : Bool) → answer ≡ t → after ≡ cond t (encode (ordering (decode bs)) bs) bs
      bytes_of t e = ordered.bytes ∙ ap (λ (b : Bool). cond b (encode (ordering (decode bs)) bs) bs) e

      pub no-order : answer ≡ false → Finalized bs (Err NoOrder) after
      no-order e =
          rw (bytes_of false e) (refused-by bs NoOrder (sym (order-left ∙ rw (order-asked false (sym ordered.answer ∙ e)))))

      pub finalize-done : answer ≡ true → Finalized bs (Ok tt) after
      finalize-done e = done (order-asked true (sym ordered.answer ∙ e)) false unmarked after (bytes_of true e)
