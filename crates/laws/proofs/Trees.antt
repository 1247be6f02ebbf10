-- The tree that a graph's child lists make: `Tree`, that permuting or sorting the lists leaves a
-- tree, and that a node more (`with_node`) makes a tree again, with what is then read of each node.
-- Assumes nothing.
use mathlib.Core.Path.{◌≡◌, refl, sym, ap, ◌∙◌}
use mathlib.Core.Logic.{◌⊎◌, inl, inr}
use mathlib.Core.Bool.{Bool, true, false}
use mathlib.Core.List.{List, [], ◌∷◌, ◌++◌}
use Prim.Native.Nat.{ℕ, zero, suc, ◌≤◌, ◌<◌}
use native.Mathlib.Nat.{eq-or-lt_of_le}
use native.Mathlib.Omega.{arith}
use lib.Dec.{eqb}
use lib.ListN.{length, get_or, set, length-set, get_or-append, get_or-eq_default}
use lib.Seq.{get_or_at, get_or-set_same, get_or-set_other}
use borrow.Author.Tests.{eqb-true, eqb-false}
use Rattle.model.specs.Lists.{All, bit, count, SameCounts}
use Rattle.model.specs.Node.{Node, no_node}
use Rattle.model.specs.Graph.{Graph, empty_graph, size, node_at, children_of, with_node}
use Rattle.model.specs.Strength.{view}
use Rattle.model.specs.Order.{sort}
use Rattle.laws.proofs.ListLaws.{bit-eq, bit-ne, count-append, all_of}
use Rattle.laws.proofs.SortLaws.{sort-counts}
use Rattle.laws.proofs.PathLemmas.{length-snoc}

-- c is a child of v
abbrev pub Child : ℕ → (ℕ → ℕ) → ℕ → ℕ → Type 0
Child n parent v c = (0 < c) × (c < n) × (parent c ≡ v)

-- n nodes: each but 0 has a lower parent and stands once in its parent's child list; nothing else
-- stands in a child list
pub record Tree (n : ℕ) (parent : ℕ → ℕ) (children : ℕ → List ℕ) : Type 0 where
  pub lower : (c : ℕ) → 0 < c → c < n → parent c < c
  pub once : (c : ℕ) → 0 < c → c < n → count c (children (parent c)) ≡ 1
  pub only : (v c : ℕ) → 0 < count c (children v) → Child n parent v c

abbrev pub TreeOf : Graph → Type 0
TreeOf g = Tree (size g) (view g.nodes).parent (children_of g)

-- at most one node, and no child
pub tree-childless : (n : ℕ) (parent : ℕ → ℕ) (children : ℕ → List ℕ) → n ≤ 1 → ((v : ℕ) → children v ≡ []) → Tree n parent children
tree-childless n parent children small empty = record {
  lower = λ c p q. absurd (omega arith);
  once = λ c p q. absurd (omega arith);
  only = λ v c m. absurd (omega (arith, ap (count c) (empty v)));
}

pub tree-empty : TreeOf empty_graph
tree-empty = tree-childless 0 (view []).parent (children_of empty_graph) (omega arith) (λ v. refl)

module _ (n : ℕ) (parent : ℕ → ℕ) (children : ℕ → List ℕ) (tree : Tree n parent children) where
  pub all-children : (v : ℕ) → All (Child n parent v) (children v)
  all-children v = all_of (Child n parent v) (children v) (tree.only v)

  -- how often a node stands in a child list, and anything
  pub child-count : (i v : ℕ) → 0 < i → i < n → count i (children v) ≡ bit (eqb (parent i) v)
  child-count i v p q = go (eqb (parent i) v) refl (count i (children v)) refl
    where
      go : (b : Bool) → eqb (parent i) v ≡ b → (k : ℕ) → count i (children v) ≡ k → count i (children v) ≡ bit b
      go true e k c = rw (eqb-true (parent i) v e) at (tree.once i p q)
      go false e zero c = c
      go false e (suc k) c = absurd (eqb-false (parent i) v e (tree.only v i (omega arith)).2)

  pub child-once : (v a : ℕ) → count a (children v) ≤ 1
  child-once v a = go (count a (children v)) refl
    where
      go : (k : ℕ) → count a (children v) ≡ k → count a (children v) ≤ 1
      go zero c = omega arith
      go (suc k) c =
          let child = tree.only v a (omega arith) in
          omega (arith, child-count a v child.0 child.1, bit-eq (parent a) v child.2)

  pub tree-permuted : (permuted : ℕ → List ℕ) → ((v : ℕ) → SameCounts (permuted v) (children v)) → Tree n parent permuted
  tree-permuted permuted same = record {
    lower = tree.lower;
    once = λ c p q. same (parent c) c ∙ tree.once c p q;
    only = λ v c m. tree.only v c (omega (arith, same v c));
  }

  pub tree-sorted : (less : ℕ → ℕ → Bool) → Tree n parent (λ v. sort less (children v))
  tree-sorted less = tree-permuted (λ v. sort less (children v)) (λ v. sort-counts less (children v))

-- ---- A node more, last in its parent's child list

module _ (n : ℕ) (parent parent' : ℕ → ℕ) (children children' : ℕ → List ℕ) (p : ℕ) (tree : Tree n parent children) (below : p < n)
    (old : (i : ℕ) → i < n → parent' i ≡ parent i) (new : parent' n ≡ p) (here : children' p ≡ children p ++ n ∷ [])
    (else : (v : ℕ) → (v ≡ p → ⊥) → children' v ≡ children v) where
  -- in each child list the old nodes stand as often as before, and the new one stands in p's alone
  count-old : (v c : ℕ) → (c ≡ n → ⊥) → count c (children' v) ≡ count c (children v)
  count-old v c ne = go (eqb v p) refl
    where
      go : (b : Bool) → eqb v p ≡ b → count c (children' v) ≡ count c (children v)
      go true e = rw (eqb-true v p e, here) (omega (arith, count-append c (children p) (n ∷ []), bit-ne c n ne))
      go false e = rw (else v (eqb-false v p e))

  count-new : (v : ℕ) → count n (children' v) ≡ bit (eqb v p)
  count-new v = go (eqb v p) refl
    where
      absent : (v k : ℕ) → count n (children v) ≡ k → k ≡ 0
      absent v zero e = refl
      absent v (suc k) e = absurd (omega (arith, (tree.only v n (omega arith)).1))

      go : (b : Bool) → eqb v p ≡ b → count n (children' v) ≡ bit b
      go true e =
          rw (eqb-true v p e, here)
          (omega (arith, count-append n (children p) (n ∷ []), bit-eq n n refl, absent p (count n (children p)) refl))
      go false e = rw (else v (eqb-false v p e)) (absent v (count n (children v)) refl)

  pub tree-grown : Tree (suc n) parent' children'
  tree-grown = record {
    lower = λ c a b. lower c a (eq-or-lt_of_le {n = c} {m = n} (omega arith));
    once = λ c a b. once c a (eq-or-lt_of_le {n = c} {m = n} (omega arith));
    only = λ v c m. only v c m (eqb c n) refl;
  }
    where
      lower : (c : ℕ) → 0 < c → (c ≡ n) ⊎ (c < n) → parent' c < c
      lower c a (inl e) = rw (e, new) below
      lower c a (inr h) = rw (old c h) (tree.lower c a h)

      once : (c : ℕ) → 0 < c → (c ≡ n) ⊎ (c < n) → count c (children' (parent' c)) ≡ 1
      once c a (inl e) = rw (e, new) (count-new p ∙ bit-eq p p refl)
      once c a (inr h) = rw (old c h) (count-old (parent c) c (λ e. omega arith) ∙ tree.once c a h)

      only : (v c : ℕ) → 0 < count c (children' v) → (b : Bool) → eqb c n ≡ b → Child (suc n) parent' v c
      only v c m true e = let q = eqb-true c n e in (omega arith, omega arith, rw q (new ∙ sym (at_p (eqb v p) refl (rw (q, count-new v) at m))))
        where
          at_p : (b : Bool) → eqb v p ≡ b → 0 < bit b → v ≡ p
          at_p true e m = eqb-true v p e
          at_p false e m = absurd (omega arith)
      only v c m false e =
          let child = tree.only v c (rw (count-old v c (eqb-false c n e)) at m) in
          (child.0, omega arith, old c child.1 ∙ child.2)

-- ---- The graph with a node more

get_d-snoc-default {ℓ} : {A : Type ℓ} (xs : List A) (d : A) (i : ℕ) → get_or (xs ++ d ∷ []) i d ≡ get_or xs i d
get_d-snoc-default [] d zero = refl
get_d-snoc-default [] d (suc i) = refl
get_d-snoc-default (x ∷ xs) d zero = refl
get_d-snoc-default (x ∷ xs) d (suc i) = get_d-snoc-default xs d i

module _ (g : Graph) (x : Node) where
  pub size-with-node : size (with_node g x) ≡ suc (size g)
  unfolding with_node
  size-with-node = length-snoc g.nodes x

  pub node-old : (i : ℕ) → i < size g → node_at (with_node g x).nodes i ≡ node_at g.nodes i
  unfolding with_node
  node-old i h = get_or-append g.nodes (x ∷ []) no_node i h

  pub node-new : node_at (with_node g x).nodes (size g) ≡ x
  unfolding with_node
  node-new = get_or_at g.nodes x [] no_node (size g) refl

-- the child lists but the new node's own, which is empty
abbrev grown : Graph → Node → List (List ℕ)
grown g x = set g.children x.parent (children_of g x.parent ++ (size g ∷ []))

children-grown : (g : Graph) (x : Node) (v : ℕ) → children_of (with_node g x) v ≡ get_or (grown g x) v []
unfolding with_node
children-grown g x v = get_d-snoc-default (grown g x) [] v

pub children-else : (g : Graph) (x : Node) (v : ℕ) → (v ≡ x.parent → ⊥) → children_of (with_node g x) v ≡ children_of g v
children-else g x v ne = children-grown g x v ∙ get_or-set_other g.children x.parent v _ [] ne

module _ (g : Graph) (x : Node) (lengths : length g.children ≡ size g) where
  grown-length : length (grown g x) ≡ size g
  grown-length = length-set g.children x.parent _ ∙ lengths

  pub lengths-with-node : length (with_node g x).children ≡ size (with_node g x)
  unfolding with_node
  lengths-with-node = length-snoc (grown g x) [] ∙ ap suc grown-length ∙ sym (size-with-node g x)

  pub children-here : x.parent < size g → children_of (with_node g x) x.parent ≡ children_of g x.parent ++ size g ∷ []
  children-here below = children-grown g x x.parent ∙ get_or-set_same g.children x.parent _ [] (omega arith)

  pub tree-with-node : x.parent < size g → TreeOf g → TreeOf (with_node g x)
  tree-with-node below tree =
      rw (size-with-node g x)
      (tree-grown (size g) (view g.nodes).parent (view (with_node g x).nodes).parent (children_of g) (children_of (with_node g x)) x.parent tree
      below (λ i h. ap (λ (y : Node). y.parent) (node-old g x i h)) (ap (λ (y : Node). y.parent) (node-new g x)) (children-here below)
      (children-else g x))

  -- node 0, whatever its parent
  pub tree-with-root : size g ≡ 0 → TreeOf (with_node g x)
  tree-with-root none =
      tree-childless (size (with_node g x)) (view (with_node g x).nodes).parent (children_of (with_node g x)) (omega (arith, size-with-node g x))
      (λ v. children-grown g x v ∙ get_or-eq_default (grown g x) [] (omega (arith, grown-length)))
