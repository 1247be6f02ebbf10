-- The steps of the walk of one child list, as `left_after` takes them: where it ends, where it goes
-- on, and what makes the list wrong. The code reads the parent alone, the definition the node's
-- whole record: they agree below the count (`same-parent`). Assumes nothing.
use mathlib.Core.Path.{◌≡◌, ◌∙◌}
use mathlib.Core.Bool.{false, cond}
use mathlib.Core.List.{List}
use Prim.Native.Nat.{ℕ, zero, suc, ◌-◌, ◌≤◌, ◌<◌}
use native.Mathlib.Nat.{sub-zero, suc-sub-suc}
use native.Mathlib.Omega.{arith}
use lib.Dec.{eqb}
use borrow.Author.Tests.{lt-ltb, le-ltb, eq-eqb, ne_eqb}
use Rattle.model.specs.Node.{invalid}
use Rattle.model.specs.Arena.{count_in, next_sibling_in, last_child_in, node_in, chain_ends}
use Rattle.arena.specs.Slot.{HasSlot, parent_in}
use Rattle.arena.proofs.SlotLaws.{same-fields}
use Rattle.std.specs.Prelude.{Some, None}
use Rattle.child_lists.specs.ChildLists.{Parented, walked}

module _ (bs : List ℕ) (h : Parented bs) where
  pub has-slot : (n : ℕ) → n < count_in bs → HasSlot bs n
  has-slot n l = record { whole = h.whole; within = omega (arith, h.few) }

  pub same-parent : (n : ℕ) → n < count_in bs → (node_in bs n).parent ≡ parent_in bs n
  same-parent n l = (same-fields bs n (h.numbered n l)).parent

  -- a node's number is not `invalid`
  inside : (n : ℕ) → n < count_in bs → eqb n invalid ≡ false
  inside n l = ne_eqb n invalid (λ e. omega (arith, h.few))

  module _ (v n last : ℕ) where
    wrong : (k : ℕ) → chain_ends bs v k n ≡ false → walked bs v k n last ≡ None
    unfolding walked
    wrong k e = rw e

    -- the list ends: is the last met the last child?
    ends : (k : ℕ) → n ≡ invalid → walked bs v k n last ≡ cond (eqb (last_child_in bs v) last) (Some k) None
    unfolding walked
    ends zero e = rw (eq-eqb n invalid e)
    ends (suc k) e = rw (eq-eqb n invalid e, le-ltb n (count_in bs) (omega (arith, h.few)), sub-zero (suc k))

    pub walk-right : (k : ℕ) → n ≡ invalid → last_child_in bs v ≡ last → walked bs v k n last ≡ Some k
    walk-right k e q = ends k e ∙ rw (eq-eqb (last_child_in bs v) last q)

    pub walk-not-last : (k : ℕ) → n ≡ invalid → (last_child_in bs v ≡ last → ⊥) → walked bs v k n last ≡ None
    walk-not-last k e q = ends k e ∙ rw (ne_eqb (last_child_in bs v) last q)

    -- a number that is neither a node's nor `invalid`
    pub walk-outside : (k : ℕ) → count_in bs ≤ n → (n ≡ invalid → ⊥) → walked bs v k n last ≡ None
    walk-outside zero l e = wrong zero (ne_eqb n invalid e)
    walk-outside (suc k) l e = wrong (suc k) (rw (ne_eqb n invalid e, le-ltb n (count_in bs) l))

    module _ (l : n < count_in bs) where
      -- one node too many
      pub walk-spent : (k : ℕ) → k ≡ 0 → walked bs v k n last ≡ None
      walk-spent zero e = wrong zero (inside n l)
      walk-spent (suc k) e = absurd (omega arith)

      -- another node's child
      pub walk-astray : (k : ℕ) → (parent_in bs n ≡ v → ⊥) → walked bs v k n last ≡ None
      walk-astray zero e = wrong zero (inside n l)
      walk-astray (suc k) e = wrong (suc k) (rw (inside n l, lt-ltb n (count_in bs) l, same-parent n l, ne_eqb (parent_in bs n) v e))

      -- a child: the walk goes on after it
      pub walk-on : (k : ℕ) → 0 < k → parent_in bs n ≡ v → walked bs v k n last ≡ walked bs v (k - 1) (next_sibling_in bs n) n
      unfolding walked
      walk-on zero s e = absurd (omega arith)
      walk-on (suc k) s e =
          let less : suc k - 1 ≡ k = omega arith in
          rw (inside n l, lt-ltb n (count_in bs) l, same-parent n l, eq-eqb (parent_in bs n) v e, less, suc-sub-suc)
