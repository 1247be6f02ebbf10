-- The copy of a specializes node by the child list of the local root: where there is none at once
-- (`no-copy-of-arc`, `no-copy-without-root`), and else the first that is one (`copy-in-list`), link
-- by link (`copy-taken`, `copy_passed`, `copies-end`). Assumes nothing.
use mathlib.Core.Path.{◌≡◌, refl, sym, ap, ◌∙◌}
use mathlib.Core.Bool.{true, false, cond}
use mathlib.Core.List.{List}
use Prim.Native.Nat.{ℕ, zero, suc, ◌-◌, ◌≤◌, ◌<◌}
use native.Mathlib.Omega.{arith}
use borrow.Author.Tests.{eq-eqb, ne_eqb, lt-ltb, le-ltb}
use Rattle.model.specs.Node.{invalid, specialize_arc}
use Rattle.model.specs.Graph.{children_of}
use Rattle.model.specs.Hierarchy.{first_in, is_copy, get_propagated_specializes_node}
use Rattle.model.specs.Arena.{count_in, next_sibling_in, chain_in, children_in, local_root_of, decode}
use Rattle.arena.proofs.HeldArenas.{held}
use Rattle.arena.proofs.ArenaBack.{children-decode}
use Rattle.arena.proofs.ReadNodes.{root-held}
use Rattle.view.specs.View.{view_in, ValidNodeAndRoot}
use Rattle.view.proofs.LocalRootLaws.{root-readable}

-- ---- The definition

module _ (bs : List ℕ) (root n : ℕ) (s : ValidNodeAndRoot bs root n) where
  root_is : root ≡ local_root_of (decode bs).nodes
  root_is = s.root-read ∙ root-held bs s.readable.opened (omega (arith, s.readable.below))

  pub no-copy-of-arc : ((view_in bs).arc n ≡ specialize_arc → ⊥) → get_propagated_specializes_node (decode bs) n ≡ invalid
  unfolding get_propagated_specializes_node
  no-copy-of-arc other = rw (ne_eqb ((view_in bs).arc n) specialize_arc other)

  pub no-copy-without-root : (view_in bs).arc n ≡ specialize_arc → root ≡ 0 → get_propagated_specializes_node (decode bs) n ≡ invalid
  unfolding get_propagated_specializes_node
  no-copy-without-root e z =
      rw (eq-eqb ((view_in bs).arc n) specialize_arc e, eq-eqb (local_root_of (decode bs).nodes) 0 (sym root_is ∙ z))

  pub copy-in-list : (view_in bs).arc n ≡ specialize_arc → (root ≡ 0 → ⊥)
      → get_propagated_specializes_node (decode bs) n ≡ first_in (is_copy (view_in bs) n) (children_in bs root)
  unfolding get_propagated_specializes_node
  copy-in-list e some =
      let list : children_of (decode bs) root ≡ children_in bs root =
      children-decode bs (held bs s.readable.opened.holds) root (root-readable bs root n s some).below in
      rw (eq-eqb ((view_in bs).arc n) specialize_arc e, ne_eqb (local_root_of (decode bs).nodes) 0 (λ z. some (root_is ∙ z)))
      (ap (λ (r : ℕ). first_in (is_copy (view_in bs) n) (children_of (decode bs) r)) (sym root_is) ∙ ap (first_in (is_copy (view_in bs) n)) list)

-- ---- The list, link by link

module _ (bs : List ℕ) (n : ℕ) where
  -- the first copy from `child` on, of at most `left` nodes
  abbrev pub copy_from : ℕ → ℕ → ℕ
  copy_from left child = first_in (is_copy (view_in bs) n) (chain_in bs left child)

  copies-step : (left child : ℕ) → 0 < left → child < count_in bs
      → copy_from left child ≡ cond (is_copy (view_in bs) n child) child (copy_from (left - 1) (next_sibling_in bs child))
  copies-step left child some l =
      let more : left ≡ suc (left - 1) = omega arith in
      ap (λ (k : ℕ). copy_from k child) more ∙ rw (lt-ltb child (count_in bs) l)

  pub copy-taken : (left child : ℕ) → 0 < left → child < count_in bs → is_copy (view_in bs) n child ≡ true → child ≡ copy_from left child
  copy-taken left child some l e = sym (copies-step left child some l ∙ rw e)

  pub copy_passed : (left child next : ℕ) → 0 < left → child < count_in bs → is_copy (view_in bs) n child ≡ false → next ≡ next_sibling_in bs child
      → copy_from (left - 1) next ≡ copy_from left child
  copy_passed left child next some l e link = ap (copy_from (left - 1)) link ∙ sym (copies-step left child some l ∙ rw e)

  pub copies-end : (left child : ℕ) → count_in bs ≤ child → copy_from left child ≡ invalid
  copies-end left child l = go left
    where
      go : (k : ℕ) → copy_from k child ≡ invalid
      go zero = refl
      go (suc k) = rw (le-ltb child (count_in bs) l)
