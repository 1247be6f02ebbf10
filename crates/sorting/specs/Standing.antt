-- Child lists that stand in order already: what is read of two neighbours, and what follows for the
-- graph.
use Rattle.std.specs.Prelude.{◌≡◌, Bool, true, List, ℕ, ◌<◌}
use Rattle.std.specs.declared.cmp.Ordering.{Ordering}
use Rattle.std.specs.declared.cmp.Ordering.TheVariants.{Less}
use Rattle.model.specs.Graph.{Graph, size, children_of}
use Rattle.model.specs.Order.{Sorted, is_stronger}
use Rattle.model.specs.Places.{by_place, key_lines}
use Rattle.model.specs.Strength.{View, view_of, is_authored}
use Rattle.model.specs.Node.{invalid}
use Rattle.model.specs.Arena.{next_sibling_in, decode}

-- all nodes at one place: their strength is not asked
abbrev pub anywhere : ℕ → ℕ → Ordering
anywhere = by_place (λ n. 0)

-- x and y are authored, and x is before y by its key
pub record Precedes (u : View) (x y : ℕ) : Type 0 where
  pub left : is_authored u x ≡ true
  pub right : is_authored u y ≡ true
  pub less : key_lines u anywhere x y ≡ Less

-- a node that has a next sibling precedes it
abbrev pub PrecedesNext : List ℕ → ℕ → Type 0
PrecedesNext bs x = (next_sibling_in bs x ≡ invalid → ⊥) → Precedes (view_of (decode bs)) x (next_sibling_in bs x)

-- if true, each child list is sorted as it stands
pub record Stands (g : Graph) (r : Bool) : Type 0 where
  pub sorted : r ≡ true → (v : ℕ) → v < size g → Sorted (is_stronger g) (children_of g v)
