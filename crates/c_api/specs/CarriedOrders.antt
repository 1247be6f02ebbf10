-- What reading the order answers, as one number, and leaves of the buffer.
use Rattle.std.specs.Prelude.{◌≡◌, cond, List, ℕ, eqb, length}
use Rattle.model.specs.Bytes.{stored}
use Rattle.model.specs.Refusals.{refusal}
use Rattle.model.specs.Arena.{decode}
use Rattle.c_api.specs.Carried.{carried_answer}
use Rattle.ordering.specs.OrderReading.{order_bytes, list_questions}

-- the number of a call that reads the order, and the buffer after it: the order's bytes at its
-- front; refused, it is as it was
pub record OrderCarried (arena out : List ℕ) (r : ℕ) (after : List ℕ) : Type 0 where
  pub number : r ≡ carried_answer (list_questions arena out) (length (decode arena).order)
  pub bytes : after ≡ cond (eqb (refusal (list_questions arena out)) 0) (stored 0 (order_bytes (decode arena).order) out) out
