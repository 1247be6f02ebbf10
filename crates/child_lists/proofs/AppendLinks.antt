-- The links of a graph with a node more, by those of the graph before: the new node is the last
-- child of its parent, and its first where there was none; it is the next sibling of the old last
-- child; its own are none; and every other link is as it was. Assumes nothing.
use mathlib.Core.Path.{◌≡◌, refl, sym, ap, ◌∙◌}
use mathlib.Core.Bool.{Bool, true, false, cond}
use mathlib.Core.List.{List, [], ◌∷◌, ◌++◌}
use Prim.Native.Nat.{ℕ, zero, suc, ◌≤◌, ◌<◌}
use native.Mathlib.Omega.{arith}
use lib.Dec.{eqb}
use lib.ListN.{get_or-eq_default}
use borrow.Author.Tests.{eqb-true, eqb-false, eq-eqb, ne_eqb}
use Rattle.model.specs.Lists.{count}
use Rattle.model.specs.Node.{invalid, Node}
use Rattle.model.specs.Graph.{Graph, size, node_at, children_of, with_node}
use Rattle.model.specs.Strength.{view}
use Rattle.model.specs.Arena.{first_of, last_of, after_in}
use Rattle.laws.proofs.ListLaws.{bit-eq, bit-ne}
use Rattle.laws.proofs.Trees.{Child, child-once, size-with-node, node-old, node-new, lengths-with-node, children-else, children-here}
use Rattle.arena.proofs.Encodable.{Encodable}
use Rattle.arena.proofs.ChainLaws.{last-of-more}

-- ---- A list with one more at its end

last-in : (c : ℕ) (cs : List ℕ) → 0 < count (last_of (c ∷ cs)) (c ∷ cs)
last-in c [] = omega (arith, bit-eq c c refl)
last-in c (d ∷ cs) = omega (arith, last-in d cs)

after_last : (n : ℕ) (c : ℕ) (cs : List ℕ) → ((a : ℕ) → count a (c ∷ cs) ≤ 1) → after_in (last_of (c ∷ cs)) ((c ∷ cs) ++ (n ∷ [])) ≡ n
after_last n c [] once = rw (eq-eqb c c refl)
after_last n c (d ∷ cs) once =
    let last = last_of (d ∷ cs) in
    let other : eqb c last ≡ false = ne_eqb c last (λ e. omega (arith, once last, last-in d cs, bit-eq last c (sym e))) in
    rw other (after_last n d cs (λ a. omega (arith, once a)))

after-else : (k n : ℕ) (cs : List ℕ) → 0 < count k cs → (k ≡ last_of cs → ⊥) → after_in k (cs ++ (n ∷ [])) ≡ after_in k cs
after-else k n [] m ne = absurd (omega arith)
after-else k n (c ∷ []) m ne = absurd (omega (arith, bit-ne k c ne))
after-else k n (c ∷ d ∷ cs) m ne = go (eqb c k) refl (λ later. after-else k n (d ∷ cs) later ne)
  where
    go : (t : Bool) → eqb c k ≡ t → (0 < count k (d ∷ cs) → after_in k ((d ∷ cs) ++ (n ∷ [])) ≡ after_in k (d ∷ cs))
        → cond t d (after_in k ((d ∷ cs) ++ (n ∷ []))) ≡ cond t d (after_in k (d ∷ cs))
    go true e later = refl
    go false e later = later (omega (arith, bit-ne k c (λ s. eqb-false c k e (sym s))))

after-new : (n : ℕ) (cs : List ℕ) → count n cs ≡ 0 → after_in n (cs ++ (n ∷ [])) ≡ invalid
after-new n [] none = rw (eq-eqb n n refl)
after-new n (c ∷ cs) none =
    rw (ne_eqb c n (λ e. omega (arith, bit-eq n c (sym e)))) (after-new n cs (omega arith))

-- ---- The links

-- the first, the last and the next of node k
abbrev pub first_child_of : Graph → ℕ → ℕ
first_child_of g k = first_of (children_of g k)

abbrev pub last_child_of : Graph → ℕ → ℕ
last_child_of g k = last_of (children_of g k)

abbrev pub next_sibling_of : Graph → ℕ → ℕ
next_sibling_of g k = after_in k (children_of g (node_at g.nodes k).parent)

module _ (g : Graph) (x : Node) (ok : Encodable g) where
  abbrev p : ℕ
  p = x.parent

  abbrev h : Graph
  h = with_node g x

  few : size g ≤ 1024
  few = ok.legal.few-nodes

  childless : (v : ℕ) → size g ≤ v → children_of g v ≡ []
  childless v l = get_or-eq_default g.children [] {n = v} (omega (arith, ok.legal.lengths))

  -- ---- The new node

  pub new-childless : (0 < size g → p < size g) → (size g ≡ 0 → p ≡ invalid) → children_of h (size g) ≡ []
  new-childless lower root = children-else g x (size g) (apart (size g) refl) ∙ childless (size g) (omega arith)
    where
      apart : (n : ℕ) → size g ≡ n → size g ≡ p → ⊥
      apart zero e q = omega (arith, root e)
      apart (suc n) e q = omega (arith, lower (omega arith))

  pub new-next : (0 < size g → p < size g) → (size g ≡ 0 → p ≡ invalid) → next_sibling_of h (size g) ≡ invalid
  new-next lower root = ap (λ (y : Node). after_in (size g) (children_of h y.parent)) (node-new g x) ∙ go (size g) refl
    where
      absent : (k : ℕ) → count (size g) (children_of g p) ≡ k → k ≡ 0
      absent zero e = refl
      absent (suc k) e = absurd (omega (arith, (ok.legal.tree.only p (size g) (omega arith)).1))

      go : (n : ℕ) → size g ≡ n → after_in (size g) (children_of h p) ≡ invalid
      go zero e =
          let none : children_of h p ≡ [] =
          get_or-eq_default h.children [] {n = p} (omega (arith, root e, lengths-with-node g x ok.legal.lengths, size-with-node g x)) in
          rw none
      go (suc n) e =
          rw (children-here g x ok.legal.lengths (lower (omega arith)))
          (after-new (size g) (children_of g p) (absent (count (size g) (children_of g p)) refl))

  -- ---- The nodes before it

  module _ (lower : p < size g) where
    parent-children : children_of h p ≡ children_of g p ++ (size g ∷ [])
    parent-children = children-here g x ok.legal.lengths lower

    pub parent-last : last_child_of h p ≡ size g
    parent-last = ap last_of parent-children ∙ last-of-more (children_of g p) (size g)

    -- the last child, where there is one, is a child, and where there is none no child is
    pub last-child : (last_child_of g p ≡ invalid → ⊥) → Child (size g) (view g.nodes).parent p (last_child_of g p)
    last-child some = ok.legal.tree.only p (last_child_of g p) (go (children_of g p) some)
      where
        go : (cs : List ℕ) → (last_of cs ≡ invalid → ⊥) → 0 < count (last_of cs) cs
        go [] some = absurd (some refl)
        go (c ∷ cs) some = last-in c cs

    no-child : last_child_of g p ≡ invalid → children_of g p ≡ []
    no-child none = go (children_of g p) refl
      where
        go : (cs : List ℕ) → children_of g p ≡ cs → cs ≡ []
        go [] q = refl
        go (c ∷ cs) q =
            let last : 0 < count (last_of (children_of g p)) (children_of g p) = rw q (last-in c cs) in
            absurd (omega (arith, few, (ok.legal.tree.only p (last_child_of g p) last).1))

    pub first-only : last_child_of g p ≡ invalid → first_child_of h p ≡ size g
    first-only none = ap first_of (parent-children ∙ ap (λ (cs : List ℕ). cs ++ (size g ∷ [])) (no-child none))

    pub first-still : (last_child_of g p ≡ invalid → ⊥) → first_child_of h p ≡ first_child_of g p
    first-still some = ap first_of parent-children ∙ go (children_of g p) some
      where
        go : (cs : List ℕ) → (last_of cs ≡ invalid → ⊥) → first_of (cs ++ (size g ∷ [])) ≡ first_of cs
        go [] some = absurd (some refl)
        go (c ∷ cs) some = refl

    pub next_last : (last_child_of g p ≡ invalid → ⊥) → next_sibling_of h (last_child_of g p) ≡ size g
    next_last some =
        let child = last-child some in
        ap (λ (y : Node). after_in (last_child_of g p) (children_of h y.parent)) (node-old g x (last_child_of g p) child.1)
        ∙ ap (λ (v : ℕ). after_in (last_child_of g p) (children_of h v)) child.2 ∙ ap (after_in (last_child_of g p)) parent-children
        ∙ go (children_of g p) some (child-once (size g) (view g.nodes).parent (children_of g) ok.legal.tree p)
      where
        go : (cs : List ℕ) → (last_of cs ≡ invalid → ⊥) → ((a : ℕ) → count a cs ≤ 1) → after_in (last_of cs) (cs ++ (size g ∷ [])) ≡ size g
        go [] some once = absurd (some refl)
        go (c ∷ cs) some once = after_last (size g) c cs once

    pub next-else : (k : ℕ) → k < size g → (k ≡ last_child_of g p → ⊥) → next_sibling_of h k ≡ next_sibling_of g k
    next-else k here ne =
        ap (λ (y : Node). after_in k (children_of h y.parent)) (node-old g x k here) ∙ go (eqb (node_at g.nodes k).parent p) refl k refl
      where
        go : (t : Bool) → eqb (node_at g.nodes k).parent p ≡ t → (i : ℕ) → k ≡ i
            → after_in k (children_of h (node_at g.nodes k).parent) ≡ after_in k (children_of g (node_at g.nodes k).parent)
        go false e i z = ap (after_in k) (children-else g x (node_at g.nodes k).parent (eqb-false (node_at g.nodes k).parent p e))
        go true e zero z =
            let under : (node_at g.nodes k).parent ≡ p = eqb-true (node_at g.nodes k).parent p e in
            let root : (node_at g.nodes k).parent ≡ invalid =
            ap (λ (i : ℕ). (node_at g.nodes i).parent) z ∙ (ok.legal.node-0 (omega arith)).no-parent in
            absurd (omega (arith, few))
        go true e (suc i) z =
            let under = eqb-true (node_at g.nodes k).parent p e in
            let once : count k (children_of g p) ≡ 1 =
            ap (λ (v : ℕ). count k (children_of g v)) (sym under) ∙ ok.legal.tree.once k (omega arith) here in
            ap (λ (v : ℕ). after_in k (children_of h v)) under ∙ ap (after_in k) parent-children
            ∙ after-else k (size g) (children_of g p) (omega arith) ne ∙ ap (λ (v : ℕ). after_in k (children_of g v)) (sym under)
