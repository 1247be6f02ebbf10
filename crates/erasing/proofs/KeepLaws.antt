-- The loop that puts what is kept of a list into an array, by new numbers: `Keeping`, with its two
-- steps and its end. A child list and the order are kept alike. Assumes nothing.
use mathlib.Core.Path.{◌≡◌, refl, sym, ap, ◌∙◌}
use mathlib.Core.List.{List, [], ◌∷◌, ◌++◌, append-nil}
use Prim.Native.Nat.{ℕ, ◌+◌, ◌≤◌, ◌<◌}
use native.Mathlib.Numerals.{add-one}
use native.Mathlib.Omega.{arith}
use lib.ListN.{length, get_or, set, take, length-set}
use lib.Seq.{take-suc-set, append_snoc}
use borrow.Author.Tests.{eq-eqb, ne_eqb}
use Rattle.model.specs.Erasing.{stays, new_number}
use Rattle.erasing.specs.KeptLists.{kept_list, Gathered}

-- `rest` of the list is left, and what is kept of the others stands up to `end`
pub record Keeping (bytes list : List ℕ) (start : ℕ) (before rest : List ℕ) (end : ℕ) (array : List ℕ) : Type 0 where
  pub long : length array ≡ length before
  pub room : end + length rest ≤ length before
  pub ended : end + length (kept_list bytes rest) ≡ start + length (kept_list bytes list)
  pub same : take end array ++ kept_list bytes rest ≡ take start before ++ kept_list bytes list

module _ {bytes list : List ℕ} {start : ℕ} {before : List ℕ} where
  pub keeping_start : start + length list ≤ length before → Keeping bytes list start before list start before
  keeping_start fits = record { long = refl; room = fits; ended = refl; same = refl }

  module _ {c : ℕ} {rest : List ℕ} {end : ℕ} {array : List ℕ} (w : Keeping bytes list start before (c ∷ rest) end array) where
    pub keeping-room : end < length array
    keeping-room = omega (arith, w.room, w.long)

    pub keeping-kept : {number : ℕ} → get_or bytes c 0 ≡ 0 → number ≡ new_number (stays bytes) c
        → Keeping bytes list start before rest (end + 1) (set array end number)
    keeping-kept {number} e new = record {
      long = length-set array end number ∙ w.long;
      room = omega (arith, w.room);
      ended = omega (arith, ap length kept, w.ended);
      same =
          rw (add-one end) (ap (λ (xs : List ℕ). xs ++ kept_list bytes rest) (take-suc-set array end number keeping-room)
          ∙ append_snoc (take end array) number (kept_list bytes rest) ∙ ap (λ (xs : List ℕ). take end array ++ xs) (sym kept) ∙ w.same);
    }
      where
        kept : kept_list bytes (c ∷ rest) ≡ number ∷ kept_list bytes rest
        kept = rw (eq-eqb (get_or bytes c 0) 0 e, new)

    pub keeping_gone : (get_or bytes c 0 ≡ 0 → ⊥) → Keeping bytes list start before rest end array
    keeping_gone e = record {
      long = w.long;
      room = omega (arith, w.room);
      ended = rw gone at w.ended;
      same = rw gone at w.same;
    }
      where
        gone : kept_list bytes (c ∷ rest) ≡ kept_list bytes rest
        gone = rw (ne_eqb (get_or bytes c 0) 0 e)

  pub keeping-ends : {end : ℕ} {array : List ℕ} → Keeping bytes list start before [] end array
      → Gathered (kept_list bytes list) start end before array
  keeping-ends {end} {array} w = record {
    ended = omega (arith, w.ended);
    long = w.long;
    front = sym (append-nil (take end array)) ∙ w.same;
  }
