-- Three siblings of an arena in a cycle have no order (`cycle-refutes`). Assumes nothing.
use mathlib.Core.Path.{◌≡◌}
use mathlib.Core.Bool.{true, false}
use mathlib.Core.List.{List}
use Prim.Native.Nat.{ℕ}
use native.Mathlib.Omega.{arith}
use Rattle.model.specs.Graph.{size}
use Rattle.model.specs.Strength.{view_of}
use Rattle.model.specs.Order.{is_stronger, has_order}
use Rattle.model.specs.Arena.{decode}
use Rattle.model.specs.ArenaCalls.{ValidArena}
use Rattle.laws.proofs.Trees.{Child, TreeOf}
use Rattle.laws.proofs.OrderRings.{ring-no-order}
use Rattle.arena.proofs.ReadNodes.{sizes}
use Rattle.certificate.specs.Certificate.{ChildOf}
use Rattle.sorting.specs.Cycle.{Three}

module _ (bs : List ℕ) (o : ValidArena bs) where
  child-of : (v c : ℕ) → ChildOf bs v c → Child (size (decode bs)) (view_of (decode bs)).parent v c
  child-of v c h = (h.0, omega (arith, h.1, sizes bs o), h.2)

  pub cycle-refutes : TreeOf (decode bs) → (a b c : ℕ) → Three bs a b c → is_stronger (decode bs) a b ≡ true → is_stronger (decode bs) b c ≡ true
      → is_stronger (decode bs) c a ≡ true → has_order (decode bs) ≡ false
  cycle-refutes tree a b c three ab bc ca =
      ring-no-order (decode bs) tree three.parent a b c (child-of _ a three.first) (child-of _ b three.second) (child-of _ c three.third) ab bc ca
