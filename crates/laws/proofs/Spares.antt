-- What an erase set must spare (question 11), as the laws of erasing ask it: node 0, Root arcs, and
-- every kept node's parent and origin. Assumes nothing.
use mathlib.Core.Path.{◌≡◌}
use mathlib.Core.Bool.{Bool, true}
use Prim.Native.Nat.{ℕ, ◌<◌}
use Rattle.model.specs.Node.{root_arc}
use Rattle.model.specs.Graph.{Graph, size, node_at}

pub record Spares (g : Graph) (kept : ℕ → Bool) : Type 0 where
  pub node0 : kept 0 ≡ true
  pub parent : (c : ℕ) → 0 < c → c < size g → kept c ≡ true → kept (node_at g.nodes c).parent ≡ true
  pub origin : (c : ℕ) → 0 < c → c < size g → kept c ≡ true → kept (node_at g.nodes c).origin ≡ true
  pub roots : (n : ℕ) → n < size g → (node_at g.nodes n).arc ≡ root_arc → kept n ≡ true
