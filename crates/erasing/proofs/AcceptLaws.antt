-- Question 11 of one node, by the bytes that are read (`accepts-node-0` to `accepts-gone`), and of
-- all (`accepting-fails`, `accepting-ends`). Assumes nothing.
use mathlib.Core.Path.{◌≡◌, sym}
use mathlib.Core.Bool.{true, false, not, and-true}
use mathlib.Core.List.{List}
use Prim.Native.Nat.{ℕ, ◌≤◌, ◌<◌}
use native.Mathlib.Omega.{arith}
use lib.Dec.{eqb}
use lib.ListN.{get_or}
use borrow.Author.Tests.{eq-eqb, ne_eqb, le-leb, lt-leb}
use Rattle.model.specs.Node.{root_arc}
use Rattle.model.specs.Graph.{Graph, size, node_at}
use Rattle.model.specs.Erasing.{spares_one, can_erase}
use Rattle.laws.proofs.ListLaws.{all-below, all-below-fails}

-- ---- One node

module _ (g : Graph) (bytes : List ℕ) (n : ℕ) where
  pub accepts-node-0 : get_or bytes n 0 ≡ 0 → n ≡ 0 → true ≡ spares_one g bytes n
  accepts-node-0 e z = rw (le-leb (get_or bytes n 0) 1 (omega arith), eq-eqb (get_or bytes n 0) 0 e, eq-eqb n 0 z)

  -- a node that stays, whose parent goes
  pub refuses-parent : (p : ℕ) → get_or bytes n 0 ≡ 0 → (n ≡ 0 → ⊥) → p ≡ (node_at g.nodes n).parent → (get_or bytes p 0 ≡ 0 → ⊥)
      → false ≡ spares_one g bytes n
  refuses-parent p e z q goes =
      rw (le-leb (get_or bytes n 0) 1 (omega arith), eq-eqb (get_or bytes n 0) 0 e, ne_eqb n 0 z, ← q, ne_eqb (get_or bytes p 0) 0 goes)

  -- a node that stays, whose parent does
  pub accepts-origin : (p o : ℕ) → get_or bytes n 0 ≡ 0 → (n ≡ 0 → ⊥) → p ≡ (node_at g.nodes n).parent → get_or bytes p 0 ≡ 0
      → o ≡ (node_at g.nodes n).origin → eqb (get_or bytes o 0) 0 ≡ spares_one g bytes n
  accepts-origin p o e z q stays w =
      rw (le-leb (get_or bytes n 0) 1 (omega arith), eq-eqb (get_or bytes n 0) 0 e, ne_eqb n 0 z, ← q, eq-eqb (get_or bytes p 0) 0 stays, ← w)
      (simp and-true)

  -- neither 0 nor 1
  pub refuses-other : 1 < get_or bytes n 0 → false ≡ spares_one g bytes n
  refuses-other other = rw (lt-leb (get_or bytes n 0) 1 other)

  -- a node that goes
  pub accepts-gone : (a : ℕ) → (get_or bytes n 0 ≡ 0 → ⊥) → get_or bytes n 0 ≤ 1 → a ≡ (node_at g.nodes n).arc
      → not (eqb a root_arc) ≡ spares_one g bytes n
  accepts-gone a goes small q = rw (le-leb (get_or bytes n 0) 1 small, ne_eqb (get_or bytes n 0) 0 goes, q)

-- ---- All nodes

-- the nodes below n pass
abbrev pub Accepting : Graph → List ℕ → ℕ → Type 0
Accepting g bytes n = (k : ℕ) → k < n → spares_one g bytes k ≡ true

module _ (g : Graph) (bytes : List ℕ) where
  module _ (n : ℕ) where
    pub accepting-fails : n < size g → spares_one g bytes n ≡ false → false ≡ can_erase g bytes
    unfolding can_erase
    accepting-fails below e = sym ((all-below-fails (spares_one g bytes) (size g)).1 (n, below, e))

    pub accepting-ends : Accepting g bytes n → size g ≤ n → true ≡ can_erase g bytes
    unfolding can_erase
    accepting-ends before done = sym ((all-below (spares_one g bytes) (size g)).1 (λ k h. before k (omega arith)))
