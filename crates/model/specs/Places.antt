-- Places: a number for each node, lower for the stronger. With them an order can be shown right
-- without comparing through origins: if the child lists are in order by document 01's lines, node
-- strength being read off the places, and the places are those of a walk of these lists, parent
-- first, then each list is in its order by strength itself (laws/proofs/OrderPlaces.antt).
use Rattle.std.specs.Prelude.{List, [], ◌∷◌, ℕ, suc, ◌≤◌, ◌<◌}
use Rattle.std.specs.declared.cmp.Ordering.{Ordering}
use Rattle.model.specs.Strength.{View, first, smaller, plain_lines, sibling_lines}
use Rattle.model.specs.Order.{Sorted, is_less}

-- the node with the earlier place is the stronger
abbrev pub by_place : (ℕ → ℕ) → ℕ → ℕ → Ordering
by_place place x y = smaller (place x) (place y)

-- the branches of a list, each from its node's place up to its `stop`, lie one after the other
-- within `from` and `to`
abbrev pub Fits : (ℕ → ℕ) → (ℕ → ℕ) → ℕ → ℕ → List ℕ → Type 0
Fits place stop from to [] = from ≤ to
Fits place stop from to (c ∷ cs) = (from ≤ place c) × Fits place stop (stop c) to cs

-- of n nodes each has the first place of its branch, and its children's branches lie after it one
-- by one; and each list is in order by places
pub record Certified (u : View) (n : ℕ) (lists : ℕ → List ℕ) (place stop : ℕ → ℕ) : Type 0 where
  pub branches : (v : ℕ) → v < n → Fits place stop (suc (place v)) (stop v) (lists v)
  pub sorted : (v : ℕ) → v < n → Sorted (λ a b. is_less (sibling_lines u (by_place place) a b)) (lists v)

-- the lines for two siblings of which no flagged one has another origin than the parent: rank, then
-- the lines 3 to 5
abbrev pub key_lines : View → (ℕ → ℕ → Ordering) → ℕ → ℕ → Ordering
key_lines u nodes a b = first (smaller (u.rank a) (u.rank b)) (plain_lines u nodes a b)
