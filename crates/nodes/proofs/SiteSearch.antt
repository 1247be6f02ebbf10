-- The lowest node that uses a site, node after node: from node 0 on it is the definition's
-- (`lowest-starts`), and one node further on (`lowest-steps`). Assumes nothing.
use mathlib.Core.Path.{◌≡◌, sym, ap, ◌∙◌}
use mathlib.Core.Bool.{cond}
use mathlib.Core.List.{List}
use Prim.Native.Nat.{ℕ, suc, ◌+◌, ◌-◌, ◌<◌}
use native.Mathlib.Omega.{arith}
use native.Mathlib.Numerals.{add-one}
use Rattle.model.specs.Graph.{uses_site, site_from, node_using_site}
use Rattle.model.specs.Arena.{count_in, node_in, tabulate, decode}

module _ (bs : List ℕ) (stack : ℕ) (path : List ℕ) where
  -- the lowest node from n on that uses the site
  abbrev pub lowest_from : ℕ → ℕ
  lowest_from n = site_from n stack path (tabulate (node_in bs) n (count_in bs - n))

  pub lowest-starts : lowest_from 0 ≡ node_using_site stack path (decode bs)
  unfolding node_using_site decode
  lowest-starts =
      let whole : count_in bs - 0 ≡ count_in bs = omega arith in
      ap (λ (k : ℕ). site_from 0 stack path (tabulate (node_in bs) 0 k)) whole

  pub lowest-steps : (n : ℕ) → n < count_in bs → lowest_from n ≡ cond (uses_site stack path (node_in bs n)) n (lowest_from (n + 1))
  lowest-steps n h =
      let more : count_in bs - n ≡ suc (count_in bs - (n + 1)) = omega arith in
      ap (λ (k : ℕ). site_from n stack path (tabulate (node_in bs) n k)) more
      ∙ ap (λ (m : ℕ). cond (uses_site stack path (node_in bs n)) n (site_from m stack path (tabulate (node_in bs) m (count_in bs - (n + 1))))) (sym (add-one n))
