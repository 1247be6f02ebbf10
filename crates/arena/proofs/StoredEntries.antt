-- Storing an order's entries one after the other: the state of a loop that does. Assumes nothing.
use mathlib.Core.Path.{◌≡◌, refl, ap, ◌∙◌}
use mathlib.Core.List.{List}
use Prim.Native.Nat.{ℕ, suc, ◌+◌, ◌-◌, ◌≤◌, ◌<◌}
use native.Mathlib.Omega.{arith}
use lib.ListN.{length}
use Rattle.model.specs.Arena.{order_stored, tabulate}
use Rattle.arena.specs.Slot.{order_entry_stored}

-- with the entries from n on the arena is what all of them make of the arena before
pub record Storing (entry : ℕ → ℕ) (before : List ℕ) (count : ℕ) (arena : List ℕ) (n : ℕ) : Type 0 where
  pub high : n ≤ count
  pub long : length arena ≡ length before
  pub same : order_stored (tabulate entry n (count - n)) n arena ≡ order_stored (tabulate entry 0 count) 0 before

pub storing-start : (entry : ℕ → ℕ) (before : List ℕ) (count : ℕ) → Storing entry before count before 0
storing-start entry before count = record {
  high = omega arith;
  long = refl;
  same = ap (λ (k : ℕ). order_stored (tabulate entry 0 k) 0 before) (let e : count - 0 ≡ count = omega arith in e);
}

module _ {entry : ℕ → ℕ} {before : List ℕ} {count : ℕ} {arena : List ℕ} {n : ℕ}
    (storing : Storing entry before count arena n) where
  pub storing-step : (after : List ℕ) → n < count → length after ≡ length arena
      → after ≡ order_entry_stored n (entry n) arena
      → Storing entry before count after (n + 1)
  storing-step after more kept e =
      let next : n + 1 ≡ suc n = omega arith in
      let rest : suc (count - (n + 1)) ≡ count - n = omega arith in
      record {
        high = omega arith;
        long = kept ∙ storing.long;
        same = (λ i. order_stored (tabulate entry (next i) (count - (n + 1))) (next i) (e i))
            ∙ ap (λ (k : ℕ). order_stored (tabulate entry n k) n arena) rest ∙ storing.same;
      }

  pub storing-end : count ≤ n → arena ≡ order_stored (tabulate entry 0 count) 0 before
  storing-end done =
      ap (λ (k : ℕ). order_stored (tabulate entry n k) n arena) (let e : 0 ≡ count - n = omega arith in e)
      ∙ storing.same
