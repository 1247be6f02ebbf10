-- What writing the text of an order answers and leaves of the buffer that it is written to. The
-- text is model/specs/Listing.antt's.
use Rattle.std.specs.Prelude.{Result}
use Rattle.model.specs.declared.Refusal.{Refusal}
use Rattle.std.specs.Prelude.{◌≡◌, ◌&&◌, cond, List, ◌∷◌, ℕ, eqb, length}
use Rattle.model.specs.Bytes.{stored}
use Rattle.model.specs.Refusals.{Question, ask, refusal}
use Rattle.model.specs.Calls.{reads_order}
use Rattle.model.specs.Listing.{listing}
use Rattle.model.specs.Arena.{arena_bytes, decode, holds_graph}
use Rattle.model.specs.ArenaCalls.{is_arena, Answered}

-- question 1 is put of both buffers; a listing's buffer is as long as an arena, and every listing
-- fits
abbrev pub listing_questions : List ℕ → List ℕ → List Question
listing_questions arena out = ask 1 (is_arena arena && eqb (length out) arena_bytes) ∷ ask 2 (holds_graph arena) ∷ reads_order (decode arena)

-- the text's length, and the text at the front of the buffer, whose other bytes stay; refused, all
-- of them do
pub record ListingWritten (arena out : List ℕ) (r : Result ℕ Refusal) (after : List ℕ) : Type 0 where
  pub answer : Answered (listing_questions arena out) (length (listing (decode arena))) r
  pub bytes : after ≡ cond (eqb (refusal (listing_questions arena out)) 0) (stored 0 (listing (decode arena)) out) out
