-- Adding a node: links stay lower, and unless it is a local root a comparison of the nodes before
-- it cannot tell (`add-looks-like`): a late addition moves nobody. What is then read of each node,
-- and its child lists, are in Trees.antt (`node-old`, `node-new`, `children-here`). Assumes
-- nothing.
use mathlib.Core.Path.{◌≡◌, refl, ap₂}
use mathlib.Core.Logic.{◌≢◌}
use mathlib.Core.Bool.{Bool, true, false, and-false}
use Prim.Native.Nat.{ℕ, ◌<◌}
use native.Mathlib.Omega.{arith}
use lib.Dec.{eqb, ltb}
use borrow.Author.Tests.{eqb-true, eqb-false, ne_eqb, ltb-true}
use Rattle.model.specs.Node.{root_arc, Node, same_site}
use Rattle.model.specs.Graph.{Graph, size, node_at, with_node, depth_below_introduction, is_local_root, in_local_stack}
use Rattle.model.specs.Strength.{view}
use Rattle.laws.proofs.Views.{LegalView, LooksLike, SameButPaths, local-root-same, same-but-paths-looks-like}
use Rattle.laws.proofs.Trees.{size-with-node, node-old, node-new}
use Rattle.laws.proofs.ListLaws.{any-below-cong}
use Rattle.laws.proofs.EraseLists.{behind-tests}

-- ---- Links

-- links that are lower stay so, where the new node's is
lower-added : (g : Graph) (x : Node) (link : Node → ℕ) → link x < size g → ((c : ℕ) → 0 < c → c < size g → link (node_at g.nodes c) < c)
    → (c : ℕ) → 0 < c → c < size (with_node g x) → link (node_at (with_node g x).nodes c) < c
lower-added g x link new old c h l = go (eqb c (size g)) refl
  where
    go : (b : Bool) → eqb c (size g) ≡ b → link (node_at (with_node g x).nodes c) < c
    go true e = rw (eqb-true c (size g) e, node-new g x) new
    go false e =
        let below : c < size g = omega (arith, size-with-node g x, eqb-false c (size g) e) in
        rw (node-old g x c below) (old c h below)

-- node 0, whatever its links
pub legal-with-root : (g : Graph) (x : Node) → size g ≡ 0 → LegalView (size (with_node g x)) (view (with_node g x).nodes)
legal-with-root g x none = record {
  parent-lower = λ c h l. absurd (omega (arith, size-with-node g x));
  origin-lower = λ c h l. absurd (omega (arith, size-with-node g x));
}

module _ (g : Graph) (x : Node) (legal : LegalView (size g) (view g.nodes)) where
  pub legal-with-node : x.parent < size g → x.origin < size g → LegalView (size (with_node g x)) (view (with_node g x).nodes)
  legal-with-node p o = record {
    parent-lower = lower-added g x (λ y. y.parent) p legal.parent-lower;
    origin-lower = lower-added g x (λ y. y.origin) o legal.origin-lower;
  }

  -- ---- What a comparison sees

  same-site-added : (a b : ℕ) → a < size g → b < size g → (view (with_node g x).nodes).same_site a b ≡ (view g.nodes).same_site a b
  unfolding same_site
  same-site-added a b l m = ap₂ same_site (node-old g x a l) (node-old g x b m)

  depth-below-added : (c : ℕ) → 0 < c → c < size g → depth_below_introduction (with_node g x).nodes c ≡ depth_below_introduction g.nodes c
  unfolding depth_below_introduction
  depth-below-added c h l = rw (node-old g x c l, node-old g x (node_at g.nodes c).parent (omega (arith, legal.parent-lower c h l)))

  same-depth-below-added : (a b : ℕ) → a < size g → b < size g
      → (view (with_node g x).nodes).same_depth_below a b ≡ (view g.nodes).same_depth_below a b
  same-depth-below-added a b l m =
      behind-tests (ltb 0 a) (ltb 0 b) _ _ (λ p q. ap₂ eqb (depth-below-added a (ltb-true 0 a p) l) (depth-below-added b (ltb-true 0 b q) m))

  same-added : SameButPaths (size g) g.nodes (with_node g x).nodes
  same-added = record { path = λ c. (node_at g.nodes c).path; same = node-old g x }

  module _ (d : x.arc ≢ root_arc) where
    new-no-local-root : is_local_root (with_node g x).nodes (size g) ≡ false
    unfolding is_local_root
    new-no-local-root = rw (node-new g x, ne_eqb x.arc root_arc d) (and-false (ltb 0 (size g)))

    local-stack-added : (n : ℕ) → n < size g → in_local_stack (with_node g x).nodes n ≡ in_local_stack g.nodes n
    unfolding in_local_stack
    local-stack-added n h =
        rw (size-with-node g x, new-no-local-root)
        (any-below-cong _ _ (size g) (λ i l. rw (local-root-same (size g) g.nodes (with_node g x).nodes same-added i l, node-old g x i l, node-old g x n h)))

    pub add-looks-like : LooksLike (size g) (λ n. true) (λ n. n) (view g.nodes) (view (with_node g x).nodes)
    add-looks-like =
        same-but-paths-looks-like (size g) g.nodes (with_node g x).nodes same-added same-site-added same-depth-below-added local-stack-added
