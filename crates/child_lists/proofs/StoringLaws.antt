-- Storing the links of lists: the states of `store_nexts`' and `store_lists`' loops. Assumes
-- nothing.
use mathlib.Core.Path.{◌≡◌, refl, sym, ap, ◌∙◌}
use mathlib.Core.List.{List, ◌∷◌}
use Prim.Native.Nat.{ℕ, suc, ◌+◌, ◌-◌, ◌≤◌, ◌<◌}
use native.Mathlib.Numerals.{add-one}
use native.Mathlib.Omega.{arith}
use lib.ListN.{length, get_or}
use lib.Seq.{slice, slice-cons}
use Rattle.model.specs.Arena.{first_of, last_of}
use Rattle.child_lists.specs.Links.{start_of, part, next_stored, ends_stored, nexts_stored, lists_stored}

-- the siblings after the children from `at` on are stored, and `head` is the first of these
pub record StoringNexts (sorted before : List ℕ) (end at head : ℕ) (arena : List ℕ) : Type 0 where
  pub high : at ≤ end
  pub first : head ≡ first_of (slice at end sorted)
  pub same : arena ≡ nexts_stored (slice at end sorted) before

module _ (sorted before : List ℕ) (end : ℕ) where
  pub nexts-step : (at head : ℕ) (arena : List ℕ) → StoringNexts sorted before end at head arena → 0 < at → end ≤ length sorted → (after : List ℕ)
      → after ≡ next_stored (get_or sorted (at - 1) 0) head arena
      → StoringNexts sorted before end (at - 1) (get_or sorted (at - 1) 0) after
  nexts-step at head arena w some fits after stores =
      let child = get_or sorted (at - 1) 0 in
      let one_less : suc (at - 1) ≡ at = omega arith in
      let longer : slice (at - 1) end sorted ≡ child ∷ slice at end sorted =
      slice-cons (at - 1) end sorted 0 (omega (arith, w.high)) fits ∙ ap (λ (k : ℕ). child ∷ slice k end sorted) one_less in
      record {
        high = omega (arith, w.high);
        first = ap first_of (sym longer);
        same = stores ∙ (λ i. next_stored child (w.first i) (w.same i)) ∙ ap (λ (l : List ℕ). nexts_stored l before) (sym longer);
      }

-- the lists of the first p nodes are stored, and the next begins at `start`
pub record StoringLists (sorted ends before : List ℕ) (p start : ℕ) (arena : List ℕ) : Type 0 where
  pub begun : start ≡ start_of ends p
  pub same : arena ≡ lists_stored sorted ends p before

module _ (sorted ends before : List ℕ) where
  pub lists-step : (p start : ℕ) (arena : List ℕ) → StoringLists sorted ends before p start arena → (linked after : List ℕ) (first last : ℕ)
      → linked ≡ nexts_stored (slice start (get_or ends p 0) sorted) arena → first ≡ first_of (slice start (get_or ends p 0) sorted)
      → last ≡ last_of (slice start (get_or ends p 0) sorted) → after ≡ ends_stored p first last linked
      → StoringLists sorted ends before (p + 1) (get_or ends p 0) after
  lists-step p start arena w linked after first last nexts f l stores =
      let here : slice start (get_or ends p 0) sorted ≡ part sorted ends p = ap (λ (s : ℕ). slice s (get_or ends p 0) sorted) w.begun in
      let f' = f ∙ ap first_of here in
      let l' = l ∙ ap last_of here in
      let n' = nexts ∙ (λ i. nexts_stored (here i) (w.same i)) in
      rw (add-one p) (record {
        begun = refl;
        same = stores ∙ (λ i. ends_stored p (f' i) (l' i) (n' i));
      })
