-- What the lists of lines answer: two siblings settled, or two lower nodes to ask.
use Rattle.std.specs.Prelude.{◌≡◌, List, ℕ, ◌+◌, ◌<◌}
use Rattle.std.specs.declared.cmp.Ordering.{Ordering}
use Rattle.model.specs.ArenaCalls.{ValidNode}
use Rattle.model.specs.Strength.{View, first, smaller}
use Rattle.view.specs.View.{view_in, ValidNodeAndRoot}
use Rattle.model.specs.declared.Verdict.{Verdict}
use Rattle.model.specs.declared.Verdict.TheVariants.{Settled, Ask}

-- two nodes with one parent, neither of them node 0
pub record Pair (bs : List ℕ) (root a b : ℕ) : Type 0 where
  pub left : ValidNodeAndRoot bs root a
  pub right : ValidNodeAndRoot bs root b
  pub left-above : 0 < a
  pub right-above : 0 < b
  pub parents : (view_in bs).parent a ≡ (view_in bs).parent b

-- the end of document 01's fourth line
abbrev pub origins_then_numbers : View → (ℕ → ℕ → Ordering) → ℕ → ℕ → Ordering
origins_then_numbers u nodes a b = first (nodes (u.origin a) (u.origin b)) (smaller a b)

-- a verdict, once the strength of nodes is known
abbrev pub resolve : (ℕ → ℕ → Ordering) → Verdict → Ordering
resolve nodes (Settled o) = o
resolve nodes (Ask x y o) = first (nodes x y) o

-- what a verdict asks are nodes whose sum is below `sum`
abbrev pub Asks : List ℕ → ℕ → Verdict → Type 0
Asks bs sum (Settled o) = Unit {0}
Asks bs sum (Ask x y o) = ValidNode bs x × ValidNode bs y × (x + y < sum)

-- a verdict on the siblings a and b by a list of lines
pub record DecidedBy (lines : (ℕ → ℕ → Ordering) → ℕ → ℕ → Ordering) (bs : List ℕ) (a b : ℕ) (r : Verdict) : Type 0 where
  pub agrees : (nodes : ℕ → ℕ → Ordering) → resolve nodes r ≡ lines nodes a b
  pub asks : Asks bs (a + b) r
