-- Two siblings: what is known of them where the questions pass (`siblings-known`), and that two
-- different ones are above node 0 (`left-above`, `right-above`). Assumes nothing.
use mathlib.Core.Path.{◌≡◌, refl, sym, ap, ◌∙◌}
use mathlib.Core.Bool.{Bool, true, false, ◌&&◌}
use mathlib.Core.List.{List, [], ◌∷◌}
use Prim.Native.Nat.{ℕ, ◌<◌}
use native.Mathlib.Omega.{arith}
use lib.Dec.{eqb, ltb}
use borrow.Author.Tests.{ne_eqb, eqb-true, eqb-false}
use Rattle.model.specs.Node.{invalid, Node}
use Rattle.model.specs.Graph.{size, node_at}
use Rattle.model.specs.Refusals.{ask, refusal}
use Rattle.model.specs.Calls.{compares_siblings}
use Rattle.model.specs.Arena.{decode, holds_graph}
use Rattle.model.specs.ArenaCalls.{is_arena, ValidNode, ask_arena}
use Rattle.arena.proofs.ChainLaws.{or-second}
use Rattle.arena.proofs.HeldArenas.{held}
use Rattle.arena.proofs.ArenaBack.{root-parent, node-decode, parent-lower}
use Rattle.validate.proofs.AskingLaws.{has_one_parent, both-readable}
use Rattle.strength.specs.Comparisons.{Siblings}

module _ (bs : List ℕ) (a b : ℕ) where
  pub siblings-known : refusal (ask_arena bs (compares_siblings (decode bs) a b)) ≡ 0 → Siblings bs a b
  siblings-known e =
      go (is_arena bs) (holds_graph bs) (ltb 0 (size (decode bs))) (ltb a (size (decode bs)) && ltb b (size (decode bs))) (has_one_parent bs a b) refl (both-readable bs a b) e
    where
      go : (s h z t p : Bool) → has_one_parent bs a b ≡ p → (refusal (ask 1 s ∷ ask 2 h ∷ ask 3 z ∷ ask 4 t ∷ []) ≡ 0 → ValidNode bs a × ValidNode bs b)
          → refusal (ask 1 s ∷ ask 2 h ∷ ask 3 z ∷ ask 4 t ∷ ask 8 p ∷ []) ≡ 0 → Siblings bs a b
      go true true true true true q read e = let both = read refl in record { left = both.0; right = both.1; one_parent = q }
      go true true true true false q read e = absurd (omega arith)
      go true true true false p q read e = absurd (omega arith)
      go true true false t p q read e = absurd (omega arith)
      go true false z t p q read e = absurd (omega arith)
      go false h z t p q read e = absurd (omega arith)

  pub one_parent : Siblings bs a b → (a ≡ b → ⊥) → (node_at (decode bs).nodes a).parent ≡ (node_at (decode bs).nodes b).parent
  one_parent s differ =
      eqb-true (node_at (decode bs).nodes a).parent (node_at (decode bs).nodes b).parent
      (or-second (eqb a b) (eqb (node_at (decode bs).nodes a).parent (node_at (decode bs).nodes b).parent) s.one_parent (ne_eqb a b differ))

-- a node with a parent that node 0 does not have is not node 0
child-above : (bs : List ℕ) (a b : ℕ) → ValidNode bs a → ValidNode bs b → (a ≡ b → ⊥)
    → (node_at (decode bs).nodes a).parent ≡ (node_at (decode bs).nodes b).parent → 0 < a
child-above bs a b r s differ same = go (eqb a 0) refl
  where
    go : (t : Bool) → eqb a 0 ≡ t → 0 < a
    go true e =
        let zero-node = eqb-true a 0 e in
        let h = held bs r.opened.holds in
        let none : (node_at (decode bs).nodes a).parent ≡ invalid =
        ap (λ (n : ℕ). (node_at (decode bs).nodes n).parent) zero-node ∙ root-parent bs h (omega (arith, r.below)) in
        let lower = parent-lower bs h b (omega arith) s.below in
        absurd (omega (arith, h.few, s.below, ap (λ (x : Node). x.parent) (node-decode bs h b s.below)))
    go false e = omega (arith, eqb-false a 0 e)

-- two different nodes with one parent are above node 0
pub left-above : (bs : List ℕ) (a b : ℕ) → Siblings bs a b → (a ≡ b → ⊥) → 0 < a
left-above bs a b s differ = child-above bs a b s.left s.right differ (one_parent bs a b s differ)

pub right-above : (bs : List ℕ) (a b : ℕ) → Siblings bs a b → (a ≡ b → ⊥) → 0 < b
right-above bs a b s differ = child-above bs b a s.right s.left (λ e. differ (sym e)) (sym (one_parent bs a b s differ))
