-- The local root of an arena that holds a graph, by the number in its header: which node it is
-- (`local-root-read`), and which nodes have its stack (`local-stack-none`, `local-stack-read`); and
-- which nodes are propagated (`propagated-read`). Assumes nothing.
use mathlib.Core.Path.{◌≡◌, refl, sym, ap, ◌∙◌}
use mathlib.Core.Bool.{Bool, true, false, not, ◌&&◌, and-eq-true_iff, true≢false, and-false}
use mathlib.Core.List.{List}
use Prim.Native.Nat.{ℕ, zero, suc, ◌<◌}
use native.Mathlib.Omega.{arith}
use lib.Dec.{eqb, ltb}
use lib.ListN.{length}
use borrow.Author.Tests.{eq-eqb, ne_eqb, eqb-true, eqb-false, lt-ltb, ltb-true}
use Rattle.model.specs.Lists.{any_below}
use Rattle.model.specs.Node.{root_arc, specialize_arc, Node}
use Rattle.model.specs.Graph.{node_at, is_local_root, in_local_stack}
use Rattle.model.specs.Strength.{is_propagated_specializes}
use Rattle.model.specs.Arena.{count_in, local_root_below, decode}
use Rattle.model.specs.ArenaCalls.{ValidNode}
use Rattle.laws.proofs.ListLaws.{any_below_lem, any-below-fails}
use Rattle.arena.proofs.HeldArenas.{held}
use Rattle.arena.proofs.ArenaBack.{size-decode, fresh-legal, fresh-nodes}
use Rattle.arena.proofs.ReadNodes.{sizes, root-found, root-held}
use Rattle.view.specs.View.{view_in, ValidNodeAndRoot}
use Rattle.view.proofs.ViewLaws.{arc-of-0, readable-parent}

-- ---- The number that is found

below-found : (ns : List Node) (k : ℕ) → (local_root_below ns k ≡ 0 → ⊥) → (local_root_below ns k < k) × (is_local_root ns (local_root_below ns k) ≡ true)
below-found ns zero some = absurd (some refl)
below-found ns (suc k) some = go (is_local_root ns k) refl (below-found ns k)
  where
    go : (t : Bool) → is_local_root ns k ≡ t
        → ((local_root_below ns k ≡ 0 → ⊥) → (local_root_below ns k < k) × (is_local_root ns (local_root_below ns k) ≡ true))
        → (local_root_below ns (suc k) < suc k) × (is_local_root ns (local_root_below ns (suc k)) ≡ true)
    go true e below = rw e (omega arith, e)
    go false e below =
        let same : local_root_below ns (suc k) ≡ local_root_below ns k = rw e in
        let b = below (λ z. some (same ∙ z)) in
        rw same (omega arith, b.1)

module _ (bs : List ℕ) (root n : ℕ) (s : ValidNodeAndRoot bs root n) where
  nodes : length (decode bs).nodes ≡ count_in bs
  nodes = sizes bs s.readable.opened

  root_is : root ≡ local_root_below (decode bs).nodes (count_in bs)
  root_is =
      s.root-read ∙ root-held bs s.readable.opened (omega (arith, s.readable.below))
      ∙ ap (local_root_below (decode bs).nodes) nodes

  -- where there is none, no node is it
  pub none-is-root : root ≡ 0 → (i : ℕ) → i < count_in bs → is_local_root (decode bs).nodes i ≡ false
  none-is-root z =
      (any-below-fails (is_local_root (decode bs).nodes) (count_in bs)).0
      (sym (root-found (decode bs).nodes (count_in bs)) ∙ rw (eq-eqb (local_root_below (decode bs).nodes (count_in bs)) 0 (sym root_is ∙ z)))

  pub root_below : (root ≡ 0 → ⊥) → root < count_in bs
  root_below some = omega (arith, root_is, (below-found (decode bs).nodes (count_in bs) (λ z. some (root_is ∙ z))).0)

  pub root-is-root : (root ≡ 0 → ⊥) → is_local_root (decode bs).nodes root ≡ true
  root-is-root some = rw root_is (below-found (decode bs).nodes (count_in bs) (λ z. some (root_is ∙ z))).1

  pub root-readable : (root ≡ 0 → ⊥) → ValidNode bs root
  root-readable some = record { opened = s.readable.opened; below = root_below some }

  -- "Arc Root is for node 0 and for one child of it"
  root-arc : (i : ℕ) → is_local_root (decode bs).nodes i ≡ true → (0 < i) × ((node_at (decode bs).nodes i).arc ≡ root_arc)
  unfolding is_local_root
  root-arc i e =
      let both = (and-eq-true_iff (ltb 0 i) (eqb (node_at (decode bs).nodes i).arc root_arc)).0 e in
      (ltb-true 0 i both.0, eqb-true (node_at (decode bs).nodes i).arc root_arc both.1)

  one-root : (i j : ℕ) → i < count_in bs → j < count_in bs → is_local_root (decode bs).nodes i ≡ true → is_local_root (decode bs).nodes j ≡ true → i ≡ j
  one-root i j p q e f =
      let h = held bs s.readable.opened.holds in
      let same = fresh-nodes bs h in
      let a = root-arc i e in
      let b = root-arc j f in
      (fresh-legal bs h).one-local-root i j (a.0, omega (arith, ap length same, size-decode bs h), rw same a.1)
      (b.0, omega (arith, ap length same, size-decode bs h), rw same b.1)

  -- a node is the local root where it has its number, which is not 0
  pub local-root-read : (view_in bs).local_root n ≡ (not (eqb root 0) && eqb n root)
  local-root-read = go (is_local_root (decode bs).nodes n) refl (eqb root 0) refl (eqb n root) refl
    where
      go : (t : Bool) → is_local_root (decode bs).nodes n ≡ t → (z : Bool) → eqb root 0 ≡ z → (w : Bool) → eqb n root ≡ w → t ≡ (not z && w)
      go true e true z w v = absurd (true≢false (sym e ∙ none-is-root (eqb-true root 0 z) n s.readable.below))
      go true e false z true v = refl
      go true e false z false v =
          let some = eqb-false root 0 z in
          absurd (eqb-false n root v (one-root n root s.readable.below (root_below some) e (root-is-root some)))
      go false e true z w v = refl
      go false e false z false v = refl
      go false e false z true v =
          absurd (true≢false (sym (root-is-root (eqb-false root 0 z)) ∙ ap (is_local_root (decode bs).nodes) (sym (eqb-true n root v)) ∙ e))

  -- ---- Its stack

  abbrev shares : ℕ → Bool
  shares i = is_local_root (decode bs).nodes i && eqb (node_at (decode bs).nodes i).stack (node_at (decode bs).nodes n).stack

  pub local-stack-none : root ≡ 0 → (view_in bs).local_stack n ≡ false
  unfolding in_local_stack
  local-stack-none z =
      ap (any_below shares) nodes ∙ (any-below-fails shares (count_in bs)).1 (λ i l. rw (none-is-root z i l))

  pub local-stack-read : (root ≡ 0 → ⊥) → (view_in bs).local_stack n ≡ eqb (node_at (decode bs).nodes root).stack (node_at (decode bs).nodes n).stack
  unfolding in_local_stack
  local-stack-read some = ap (any_below shares) nodes ∙ go (eqb (node_at (decode bs).nodes root).stack (node_at (decode bs).nodes n).stack) refl
    where
      go : (t : Bool) → eqb (node_at (decode bs).nodes root).stack (node_at (decode bs).nodes n).stack ≡ t → any_below shares (count_in bs) ≡ t
      go true e = (any_below_lem shares (count_in bs)).1 (root, root_below some, rw (root-is-root some) e)
      go false e = (any-below-fails shares (count_in bs)).1 (λ i l. other i l (is_local_root (decode bs).nodes i) refl)
        where
          other : (i : ℕ) → i < count_in bs → (t : Bool) → is_local_root (decode bs).nodes i ≡ t
              → (t && eqb (node_at (decode bs).nodes i).stack (node_at (decode bs).nodes n).stack) ≡ false
          other i l false f = refl
          other i l true f =
              ap (λ (k : ℕ). eqb (node_at (decode bs).nodes k).stack (node_at (decode bs).nodes n).stack)
              (one-root i root l (root_below some) f (root-is-root some))
              ∙ e

-- ---- Propagated specializes

module _ (bs : List ℕ) (root n : ℕ) (s : ValidNodeAndRoot bs root n) where
  pub not-specialize : ((view_in bs).arc n ≡ specialize_arc → ⊥) → is_propagated_specializes (view_in bs) n ≡ false
  unfolding is_propagated_specializes
  not-specialize other = rw (ne_eqb ((view_in bs).arc n) specialize_arc other, and-false)

  -- node 0 has arc Root
  pub specialize-positive : (view_in bs).arc n ≡ specialize_arc → 0 < n
  specialize-positive e = go n e s.readable.below
    where
      go : (m : ℕ) → (view_in bs).arc m ≡ specialize_arc → m < count_in bs → 0 < m
      go zero f l = absurd (omega (arith, arc-of-0 bs s.readable.opened l, f))
      go (suc m) f l = omega arith

  -- of a Specialize: the local root as parent, and its origin's site
  pub propagated-read : (view_in bs).arc n ≡ specialize_arc
      → is_propagated_specializes (view_in bs) n ≡ ((not (eqb root 0) && eqb ((view_in bs).parent n) root) && (view_in bs).same_site n ((view_in bs).origin n))
  unfolding is_propagated_specializes
  propagated-read e =
      let above = specialize-positive e in
      let up : ValidNodeAndRoot bs root ((view_in bs).parent n) = record { readable = readable-parent bs n s.readable above; root-read = s.root-read } in
      rw (lt-ltb 0 n above, eq-eqb ((view_in bs).arc n) specialize_arc e, local-root-read bs root ((view_in bs).parent n) up)
