-- Question 7, one node after the other: the sum so far and the paths from node n on (`fit_from`),
-- with its start, its step, a path that is too long, and its end. Assumes nothing.
use mathlib.Core.Path.{◌≡◌, sym, ap, ◌∙◌}
use mathlib.Core.Bool.{Bool, false, ◌&&◌}
use mathlib.Core.List.{List, map}
use Prim.Native.Nat.{ℕ, suc, ◌+◌, ◌-◌, ◌≤◌, ◌<◌}
use native.Mathlib.Nat.{add-zero, zero-add, add_assoc}
use native.Mathlib.Numerals.{add-one}
use native.Mathlib.Omega.{arith}
use lib.Dec.{leb}
use lib.ListN.{length}
use borrow.Author.Tests.{le-leb, lt-leb}
use Rattle.model.specs.Arena.{count_in, node_in, tabulate, decode}
use Rattle.model.specs.Calls.{short_paths, paths_fit}
use Rattle.model.specs.Deepening.{deepened, deepen}
use Rattle.model.specs.Node.{Node}
use Rattle.model.specs.Path.{append_name}
use Rattle.model.specs.Refusals.{most_path_bytes, path_bytes}

module _ (bs name : List ℕ) where
  abbrev fits : ℕ → List Node → Bool
  fits sum xs = short_paths xs && leb (sum + path_bytes xs) most_path_bytes

  abbrev deepened_from : ℕ → ℕ → List Node
  deepened_from n k = map (deepened name) (tabulate (node_in bs) n k)

  abbrev pub fit_from : ℕ → ℕ → Bool
  fit_from sum n = fits sum (deepened_from n (count_in bs - n))

  pub fit-start : fit_from 0 0 ≡ paths_fit (deepen name (decode bs))
  unfolding decode deepen
  fit-start =
      let whole : count_in bs - 0 ≡ count_in bs = omega arith in
      ap (λ (k : ℕ). fits 0 (deepened_from 0 k)) whole
      ∙ ap (λ (m : ℕ). short_paths (deepened_from 0 (count_in bs)) && leb m most_path_bytes) (zero-add (path_bytes (deepened_from 0 (count_in bs))))

  module _ (sum n : ℕ) (h : n < count_in bs) where
    abbrev long : ℕ
    long = length (append_name (node_in bs n).path name)

    abbrev rest : List Node
    rest = deepened_from (suc n) (count_in bs - (n + 1))

    opened : fit_from sum n ≡ ((leb long 255 && short_paths rest) && leb (sum + (long + path_bytes rest)) most_path_bytes)
    opened =
        let more : count_in bs - n ≡ suc (count_in bs - (n + 1)) = omega arith in
        ap (λ (k : ℕ). fits sum (deepened_from n k)) more

    pub fit-step : long ≤ 255 → fit_from (sum + long) (n + 1) ≡ fit_from sum n
    fit-step short = sym
        (opened ∙ ap (λ (t : Bool). (t && short_paths rest) && leb (sum + (long + path_bytes rest)) most_path_bytes) (le-leb long 255 short)
        ∙ ap (λ (m : ℕ). short_paths rest && leb m most_path_bytes) (sym (add_assoc sum long (path_bytes rest)))
        ∙ ap (λ (m : ℕ). fits (sum + long) (deepened_from m (count_in bs - (n + 1)))) (sym (add-one n)))

    pub fit-long : 255 < long → false ≡ fit_from sum n
    fit-long e = sym
        (opened ∙ ap (λ (t : Bool). (t && short_paths rest) && leb (sum + (long + path_bytes rest)) most_path_bytes) (lt-leb long 255 e))

  pub fit-end : (sum n : ℕ) → count_in bs ≤ n → leb sum most_path_bytes ≡ fit_from sum n
  fit-end sum n h = sym
      (let none : count_in bs - n ≡ 0 = omega arith in
      ap (λ (k : ℕ). fits sum (deepened_from n k)) none ∙ ap (λ (m : ℕ). leb m most_path_bytes) (add-zero sum))
