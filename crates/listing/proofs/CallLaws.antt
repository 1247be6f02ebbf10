-- The ways that writing a listing ends: a law for each question whose answer is no, and `written`;
-- and for its callers, that the length answered is one of bytes that the buffer has
-- (`length-within`). Assumes nothing.
use Rattle.std.specs.Prelude.{Err, Ok, Result}
use mathlib.Core.Path.{◌≡◌, refl, sym, ap, ◌∙◌}
use mathlib.Core.List.{List, [], ◌∷◌}
use Prim.Native.Nat.{ℕ, ◌+◌, ◌≤◌, ◌<◌}
use native.Mathlib.Nat.{zero-add}
use native.Mathlib.Omega.{arith}
use lib.Dec.{eqb}
use lib.ListN.{length, drop, length-append}
use borrow.Author.Tests.{eq-eqb, ne_eqb}
use Rattle.model.specs.Bytes.{stored}
use Rattle.model.specs.Listing.{listing}
use Rattle.model.specs.Refusals.{refusal_number, ask, refusal}
use Rattle.model.specs.Calls.{has_node_zero, reads_order}
use Rattle.model.specs.Arena.{arena_bytes, count_in, ordered_in, decode}
use Rattle.model.specs.ArenaCalls.{ValidArena, ask_arena, value_unless}
use Rattle.model.specs.declared.Refusal.{Refusal}
use Rattle.model.specs.declared.Refusal.TheVariants.{Size, NotOrdered}
use Rattle.laws.proofs.ArenaCallLaws.{refusal-some, refused-before, answered-refused, answered-number, buffer-refused, buffer-passed}
use Rattle.validate.proofs.AskingLaws.{node-zero-passed}
use Rattle.listing.specs.Listings.{listing_questions, ListingWritten}
use Rattle.listing.specs.Texts.{Put}

module _ (bs out : List ℕ) where
  refused_as : (r : Refusal) → refusal_number r ≡ refusal (listing_questions bs out) → ListingWritten bs out (Err r) out
  refused_as r e = record {
    answer = answered-refused (listing_questions bs out) _ r e;
    bytes = rw (ne_eqb (refusal (listing_questions bs out)) 0 (λ z. refusal-some r (e ∙ z)));
  }

  ordered-read : (decode bs).ordered ≡ eqb (ordered_in bs) 1
  unfolding decode
  ordered-read = refl

  pub not-buffer : (length out ≡ arena_bytes → ⊥) → ListingWritten bs out (Err Size) out
  not-buffer h = refused_as Size (buffer-refused bs (eqb (length out) arena_bytes) (reads_order (decode bs)) (ne_eqb (length out) arena_bytes h))

  module _ (large : length out ≡ arena_bytes) where
    -- a buffer of the right size leaves the questions of the arena
    asks : refusal (listing_questions bs out) ≡ refusal (ask_arena bs (reads_order (decode bs)))
    asks = buffer-passed bs (eqb (length out) arena_bytes) (reads_order (decode bs)) (eq-eqb (length out) arena_bytes large)

    -- by questions 1 to 3
    pub refused-first : (r : Refusal) → refusal_number r ≡ refusal (ask_arena bs (has_node_zero (decode bs) ∷ [])) → ListingWritten bs out (Err r) out
    refused-first r e =
        refused_as r (refused-before r (ask_arena bs (has_node_zero (decode bs) ∷ [])) (ask 10 (decode bs).ordered ∷ []) e ∙ sym asks)

    module _ (o : ValidArena bs) (some : 0 < count_in bs) where
      order-left : refusal (listing_questions bs out) ≡ refusal (ask 10 (eqb (ordered_in bs) 1) ∷ [])
      order-left = asks ∙ node-zero-passed bs (ask 10 (decode bs).ordered ∷ []) o some ∙ rw ordered-read

      pub not-ordered : (ordered_in bs ≡ 1 → ⊥) → ListingWritten bs out (Err NotOrdered) out
      not-ordered e = refused_as NotOrdered (sym (order-left ∙ rw (ne_eqb (ordered_in bs) 1 e)))

      pub written : ordered_in bs ≡ 1 → (end : ℕ) (after : List ℕ) → Put 0 (listing (decode bs)) out end after → ListingWritten bs out (Ok end) after
      written e end after put =
          let accepted : refusal (listing_questions bs out) ≡ 0 = order-left ∙ rw (eq-eqb (ordered_in bs) 1 e) in
          record {
            answer = answered-number (listing_questions bs out) _ end accepted (put.place ∙ zero-add (length (listing (decode bs))));
            bytes = rw (eq-eqb (refusal (listing_questions bs out)) 0 accepted) put.bytes;
          }

pub length-within : (bs out : List ℕ) (r : Result ℕ Refusal) (after : List ℕ) → ListingWritten bs out r after → (n : ℕ) → r ≡ Ok n → n ≤ length after
unfolding stored
length-within bs out r after written n e =
    let text = listing (decode bs) in
    let w : ListingWritten bs out (Ok n) after = rw e at written in
    let accepted : refusal (listing_questions bs out) ≡ 0 = sym w.answer.refused in
    let long : n ≡ length text = w.answer.value ∙ ap (λ (k : ℕ). value_unless k (length text)) accepted in
    let left : after ≡ stored 0 text out = rw (eq-eqb (refusal (listing_questions bs out)) 0 accepted) at w.bytes in
    omega (arith, ap length left, length-append text (drop (0 + length text) out))
