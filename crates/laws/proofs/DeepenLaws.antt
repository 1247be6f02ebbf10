-- Deepening by a name: every path is the old one with the name appended, so all prim counts grow by
-- one, and with them every depth below introduction that was not cut off at 0
-- (`depth-below-deepened`). Where none was, a comparison cannot tell the deepened graph from the
-- old one (`deepen-looks-like`).
-- Assumes nothing.
use mathlib.Core.Path.{◌≡◌, refl, sym, ap, ap₂, ◌∙◌}
use mathlib.Core.Bool.{Bool, true, false, ◌&&◌}
use mathlib.Core.List.{List}
use Prim.Native.Nat.{ℕ, ◌+◌, ◌≤◌, ◌<◌}
use native.Mathlib.Numerals.{add-one}
use native.Mathlib.Omega.{arith}
use lib.Dec.{eqb, ltb, eqb-suc-suc}
use lib.ListN.{length-map}
use borrow.Author.Tests.{ne_eqb, ltb-true}
use Rattle.model.specs.Path.{start, run, may_end, prim_count, append_name, same_path}
use Rattle.model.specs.Node.{Node, no_node, same_site}
use Rattle.model.specs.Graph.{Graph, size, node_at, depth_below_introduction, in_local_stack}
use Rattle.model.specs.Strength.{view}
use Rattle.model.specs.Deepening.{deepened, deepen}
use Rattle.laws.proofs.Views.{LegalView, LooksLike, SameButPaths, local-root-same, same-but-paths-looks-like}
use Rattle.laws.proofs.PathGrammar.{Name, append-runs}
use Rattle.laws.proofs.PathLaws.{append-prim-count, append-injective, same-path-equal, equal-same-path}
use Rattle.laws.proofs.Trees.{TreeOf}
use Rattle.laws.proofs.ListLaws.{any-below-cong}
use Rattle.laws.proofs.EraseLists.{map-place, behind-tests}

-- Each path may end, and each node's depth is reached by its parent's path: what a graph without
-- the shallow mark has.
pub record Reached (g : Graph) : Type 0 where
  pub may-end : (n : ℕ) → n < size g → may_end (run start (node_at g.nodes n).path) ≡ true
  pub reached : (c : ℕ) → 0 < c → c < size g → (node_at g.nodes c).depth ≤ prim_count (node_at g.nodes (node_at g.nodes c).parent).path

-- ---- The deepened graph by its parts

module _ (name : List ℕ) (g : Graph) where
  pub size-deepened : size (deepen name g) ≡ size g
  unfolding deepen
  size-deepened = length-map g.nodes (deepened name)

  pub node-deepened : (n : ℕ) → n < size g → node_at (deepen name g).nodes n ≡ deepened name (node_at g.nodes n)
  unfolding deepen
  node-deepened n h = map-place (deepened name) g.nodes n no_node no_node h

  pub legal-deepened : LegalView (size g) (view g.nodes) → LegalView (size (deepen name g)) (view (deepen name g).nodes)
  legal-deepened legal = record {
    parent-lower = λ c h l. let m : c < size g = rw size-deepened at l in rw (node-deepened c m) (legal.parent-lower c h m);
    origin-lower = λ c h l. let m : c < size g = rw size-deepened at l in rw (node-deepened c m) (legal.origin-lower c h m);
  }

  pub children-deepened : (deepen name g).children ≡ g.children
  unfolding deepen
  children-deepened = refl

  pub tree-deepened : TreeOf g → TreeOf (deepen name g)
  unfolding deepen
  tree-deepened tree =
      rw size-deepened record {
        lower = λ c h l. rw (parent c l) (tree.lower c h l);
        once = λ c h l. rw (parent c l) (tree.once c h l);
        only = λ v c m. let child = tree.only v c m in (child.0, child.1, parent c child.1 ∙ child.2);
      }
    where
      parent : (c : ℕ) → c < size g → (node_at (deepen name g).nodes c).parent ≡ (node_at g.nodes c).parent
      parent c l = ap (λ (x : Node). x.parent) (node-deepened c l)

-- ---- Paths

both-more : (a b : ℕ) → eqb (a + 1) (b + 1) ≡ eqb a b
both-more a b = rw (add-one a, add-one b) (eqb-suc-suc a b)

-- two paths with one name appended are the same if they were
same-path-appended : (p q w : List ℕ) → may_end (run start p) ≡ true → may_end (run start q) ≡ true → Name w
    → same_path (append_name p w) (append_name q w) ≡ same_path p q
same-path-appended p q w e f n = go (same_path p q) refl (same_path (append_name p w) (append_name q w)) refl
  where
    go : (a : Bool) → same_path p q ≡ a → (b : Bool) → same_path (append_name p w) (append_name q w) ≡ b → b ≡ a
    go true k b l = sym l ∙ equal-same-path (append_name p w) (append_name q w) (ap (λ (r : List ℕ). append_name r w) (same-path-equal p q k))
    go false k true l =
        sym (equal-same-path p q (append-injective p q w w e f n n (same-path-equal (append_name p w) (append_name q w) l)).0) ∙ k
    go false k false l = refl

module _ (name : List ℕ) (is_name : Name name) (g : Graph) (r : Reached g) where
  pub may-end-deepened : (n : ℕ) → n < size g → may_end (run start (node_at (deepen name g).nodes n).path) ≡ true
  may-end-deepened n h = rw (node-deepened name g n h, (append-runs (node_at g.nodes n).path name (r.may-end n h) is_name).0)

  pub prim-count-deepened : (n : ℕ) → n < size g → prim_count (node_at (deepen name g).nodes n).path ≡ prim_count (node_at g.nodes n).path + 1
  prim-count-deepened n h =
      ap (λ (x : Node). prim_count x.path) (node-deepened name g n h) ∙ append-prim-count (node_at g.nodes n).path name (r.may-end n h) is_name

module _ (name : List ℕ) (is_name : Name name) (g : Graph) (legal : LegalView (size g) (view g.nodes)) (r : Reached g) where
  parent-prim-count-deepened : (c : ℕ) → 0 < c → c < size g
      → prim_count (node_at (deepen name g).nodes (node_at (deepen name g).nodes c).parent).path
      ≡ prim_count (node_at g.nodes (node_at g.nodes c).parent).path + 1
  parent-prim-count-deepened c h l =
      rw (ap (λ (x : Node). x.parent) (node-deepened name g c l))
      (prim-count-deepened name is_name g r (node_at g.nodes c).parent (omega (arith, legal.parent-lower c h l)))

  pub depth-below-deepened : (c : ℕ) → 0 < c → c < size g
      → depth_below_introduction (deepen name g).nodes c ≡ depth_below_introduction g.nodes c + 1
  unfolding depth_below_introduction
  depth-below-deepened c h l =
      rw (ne_eqb c 0 (omega arith), parent-prim-count-deepened c h l, ap (λ (x : Node). x.depth) (node-deepened name g c l))
      (omega (arith, r.reached c h l))

  -- it can be deepened again
  pub reached-deepened : Reached (deepen name g)
  reached-deepened = record {
    may-end = λ n h. may-end-deepened name is_name g r n (rw (size-deepened name g) at h);
    reached = λ c h l. reached c h (rw (size-deepened name g) at l);
  }
    where
      reached : (c : ℕ) → 0 < c → c < size g
          → (node_at (deepen name g).nodes c).depth ≤ prim_count (node_at (deepen name g).nodes (node_at (deepen name g).nodes c).parent).path
      reached c h l =
          rw (parent-prim-count-deepened c h l, ap (λ (x : Node). x.depth) (node-deepened name g c l)) (omega (arith, r.reached c h l))

  -- ---- What a comparison sees

  same-site-deepened : (a b : ℕ) → a < size g → b < size g → (view (deepen name g).nodes).same_site a b ≡ (view g.nodes).same_site a b
  unfolding same_site
  same-site-deepened a b l m =
      rw (node-deepened name g a l, node-deepened name g b m)
      (ap (λ (t : Bool). eqb (node_at g.nodes a).stack (node_at g.nodes b).stack && t)
      (same-path-appended (node_at g.nodes a).path (node_at g.nodes b).path name (r.may-end a l) (r.may-end b m) is_name))

  same-depth-below-deepened : (a b : ℕ) → a < size g → b < size g
      → (view (deepen name g).nodes).same_depth_below a b ≡ (view g.nodes).same_depth_below a b
  same-depth-below-deepened a b l m =
      behind-tests (ltb 0 a) (ltb 0 b) _ _ (λ p q.
      ap₂ eqb (depth-below-deepened a (ltb-true 0 a p) l) (depth-below-deepened b (ltb-true 0 b q) m)
      ∙ both-more (depth_below_introduction g.nodes a) (depth_below_introduction g.nodes b))

  same-deepened : SameButPaths (size g) g.nodes (deepen name g).nodes
  same-deepened = record { path = λ c. append_name (node_at g.nodes c).path name; same = node-deepened name g }

  local-stack-deepened : (n : ℕ) → n < size g → in_local_stack (deepen name g).nodes n ≡ in_local_stack g.nodes n
  unfolding in_local_stack
  local-stack-deepened n h =
      rw (size-deepened name g)
      (any-below-cong _ _ (size g) (λ i l. rw (local-root-same (size g) g.nodes (deepen name g).nodes same-deepened i l, node-deepened name g i l, node-deepened name g n h)))

  pub deepen-looks-like : LooksLike (size g) (λ n. true) (λ n. n) (view g.nodes) (view (deepen name g).nodes)
  deepen-looks-like =
      same-but-paths-looks-like
      (size g)
      g.nodes
      (deepen name g).nodes
      same-deepened
      same-site-deepened
      same-depth-below-deepened
      local-stack-deepened
