-- Erasing: the nodes that stay, by their new numbers, are as before but for the renumbering of
-- parent and origin (`node-erased`), child lists and the walk lose only what went
-- (`children-erased`, `walk-erased`), the graph is again a tree with lower links (`tree-erased`,
-- `legal-erased`), and a comparison cannot tell it from the old one (`erase-looks-like`).
-- Assumes nothing.
use mathlib.Core.Path.{◌≡◌, refl, sym, ap, ap₂, ◌∙◌, subst}
use mathlib.Core.Bool.{Bool, true, false, ◌&&◌, and-false, false≢true}
use mathlib.Core.List.{[], ◌∷◌, map}
use Prim.Native.Nat.{ℕ, zero, suc, ◌≤◌, ◌<◌}
use native.Mathlib.Omega.{arith}
use lib.Dec.{eqb, ltb}
use lib.ListN.{length, length-map, get_or-map, get_or-eq_default}
use borrow.Author.Tests.{ne_eqb, ltb-true, ltb-false, lt-ltb, le-ltb}
use Rattle.model.specs.Lists.{count, filter, keep_at}
use Rattle.model.specs.Node.{invalid, root_arc, Node, no_node, has_specializes, same_site}
use Rattle.model.specs.Graph.{Graph, size, node_at, children_of, depth_below_introduction, is_local_root, in_local_stack}
use Rattle.model.specs.Strength.{arc_rank, view}
use Rattle.model.specs.Order.{walk_up_to, walk}
use Rattle.model.specs.Erasing.{new_number, new_link, renumbered, erase_by}
use Rattle.laws.proofs.Views.{LegalView, LooksLike}
use Rattle.laws.proofs.Spares.{Spares}
use Rattle.laws.proofs.Trees.{Child, TreeOf, all-children}
use Rattle.laws.proofs.WalkLaws.{walk-fuel}
use Rattle.laws.proofs.ListLaws.{all-imp, keep-at-length, keep-at-kept}
use Rattle.laws.proofs.EraseLists.{new-number-no-larger, new-number-grows, new-number-positive, new-number-eqb, new-number-ltb, at-new-numbers, map-place, any-below-kept, count_kept, kept-counted, concat-goes, concat-kept, behind-tests}

-- ---- The erased graph by its parts

module _ (kept : ℕ → Bool) (g : Graph) where
  pub size-erased : size (erase_by kept g) ≡ new_number kept (size g)
  unfolding erase_by
  size-erased = length-map (keep_at kept g.nodes) (renumbered kept (size g)) ∙ keep-at-length kept g.nodes

  -- "the fields a snapshot holds are unchanged but for that renumbering of parent and origin"
  pub node-erased : (n : ℕ) → n < size g → kept n ≡ true
      → node_at (erase_by kept g).nodes (new_number kept n) ≡ renumbered kept (size g) (node_at g.nodes n)
  unfolding erase_by
  node-erased n h k =
      map-place (renumbered kept (size g)) (keep_at kept g.nodes) (new_number kept n) no_node no_node
      (omega (arith, keep-at-length kept g.nodes, new-number-grows kept n (size g) k h))
      ∙ ap (renumbered kept (size g)) (keep-at-kept kept g.nodes n no_node h k)

  -- "chains lose only what went"
  module _ (l : length g.children ≡ size g) where
    pub children-length-erased : length (erase_by kept g).children ≡ size (erase_by kept g)
    unfolding erase_by
    children-length-erased =
        length-map (keep_at kept g.children) (λ cs. map (new_number kept) (filter kept cs))
        ∙ keep-at-length kept g.children ∙ ap (new_number kept) l ∙ sym size-erased

    pub children-erased : (v : ℕ) → v < size g → kept v ≡ true
        → children_of (erase_by kept g) (new_number kept v) ≡ map (new_number kept) (filter kept (children_of g v))
    unfolding erase_by
    children-erased v h k =
        get_or-map (λ cs. map (new_number kept) (filter kept cs)) (keep_at kept g.children) (new_number kept v) []
        ∙ ap (λ cs. map (new_number kept) (filter kept cs)) (keep-at-kept kept g.children v [] (omega arith) k)

    pub no-children-beyond : (v : ℕ) → size (erase_by kept g) ≤ v → children_of (erase_by kept g) v ≡ []
    no-children-beyond v h = get_or-eq_default (erase_by kept g).children [] (rw children-length-erased h)

  pub order-erased : (erase_by kept g).order ≡ map (new_number kept) (filter kept g.order)
  unfolding erase_by
  order-erased = refl

  pub marks-erased : ((erase_by kept g).ordered ≡ g.ordered) × ((erase_by kept g).finalized ≡ g.finalized) × ((erase_by kept g).shallow ≡ g.shallow)
  unfolding erase_by
  marks-erased = (refl, refl, refl)

-- ---- Links

-- a link that is no node's number stays
no-link-stays : (kept : ℕ → Bool) (n link : ℕ) → n ≤ link → new_link kept n link ≡ link
no-link-stays kept n link h = rw (le-ltb link n h)

module _ (kept : ℕ → Bool) (g : Graph) (s : Spares g kept) where
  -- node 0 keeps none: no node of a graph is `invalid`
  pub node0-links-erased : 0 < size g → size g ≤ 1024 → (node_at g.nodes 0).parent ≡ invalid → (node_at g.nodes 0).origin ≡ invalid
      → ((node_at (erase_by kept g).nodes 0).parent ≡ invalid) × ((node_at (erase_by kept g).nodes 0).origin ≡ invalid)
  node0-links-erased h small p o = (
    ap (λ (x : Node). x.parent) (node-erased kept g 0 h s.node0) ∙ no-link-stays kept (size g) (node_at g.nodes 0).parent (omega arith) ∙ p,
    ap (λ (x : Node). x.origin) (node-erased kept g 0 h s.node0) ∙ no-link-stays kept (size g) (node_at g.nodes 0).origin (omega arith) ∙ o,
  )

-- links that are lower stay so
lower-erased : (kept : ℕ → Bool) (n : ℕ) (link link_erased : ℕ → ℕ)
    → ((c : ℕ) → 0 < c → c < n → kept c ≡ true → (kept (link c) ≡ true) × (link_erased (new_number kept c) ≡ new_number kept (link c)))
    → ((c : ℕ) → 0 < c → c < n → link c < c) → (c : ℕ) → 0 < c → c < new_number kept n → link_erased c < c
lower-erased kept n link link_erased moves lower c h l = at-new-numbers kept (λ c. 0 < c → link_erased c < c) n at-kept c l h
  where
    at-kept : (c : ℕ) → c < n → kept c ≡ true → 0 < new_number kept c → link_erased (new_number kept c) < new_number kept c
    at-kept c l k h =
        let p : 0 < c = new-number-positive kept c h in
        let m = moves c p l k in
        rw m.1 (new-number-grows kept (link c) c m.0 (lower c p l))

module _ (kept : ℕ → Bool) (g : Graph) (s : Spares g kept) (legal : LegalView (size g) (view g.nodes)) where
  module _ (c : ℕ) (h : 0 < c) (l : c < size g) (k : kept c ≡ true) where
    parent-erased : (node_at (erase_by kept g).nodes (new_number kept c)).parent ≡ new_number kept (node_at g.nodes c).parent
    parent-erased = rw (node-erased kept g c l k, lt-ltb (node_at g.nodes c).parent (size g) (omega (arith, legal.parent-lower c h l)))

    origin-erased : (node_at (erase_by kept g).nodes (new_number kept c)).origin ≡ new_number kept (node_at g.nodes c).origin
    origin-erased = rw (node-erased kept g c l k, lt-ltb (node_at g.nodes c).origin (size g) (omega (arith, legal.origin-lower c h l)))

    depth-below-erased : depth_below_introduction (erase_by kept g).nodes (new_number kept c) ≡ depth_below_introduction g.nodes c
    unfolding depth_below_introduction
    depth-below-erased =
        let p : ℕ = (node_at g.nodes c).parent in
        rw (
          new-number-eqb kept c 0 k s.node0,
          parent-erased,
          ap (λ (x : Node). x.path) (node-erased kept g p (omega (arith, legal.parent-lower c h l)) (s.parent c h l k)),
          ap (λ (x : Node). x.depth) (node-erased kept g c l k),
        )

  pub legal-erased : LegalView (size (erase_by kept g)) (view (erase_by kept g).nodes)
  legal-erased = record {
    parent-lower = λ c h l.
        lower-erased kept (size g) (view g.nodes).parent (view (erase_by kept g).nodes).parent
        (λ c h l k. (s.parent c h l k, parent-erased c h l k)) legal.parent-lower c h (rw (size-erased kept g) at l);
    origin-lower = λ c h l.
        lower-erased kept (size g) (view g.nodes).origin (view (erase_by kept g).nodes).origin
        (λ c h l k. (s.origin c h l k, origin-erased c h l k)) legal.origin-lower c h (rw (size-erased kept g) at l);
  }

  -- ---- What a comparison sees

  local-root-erased : (n : ℕ) → n < size g → kept n ≡ true → is_local_root (erase_by kept g).nodes (new_number kept n) ≡ is_local_root g.nodes n
  unfolding is_local_root
  local-root-erased n h k = rw (new-number-ltb kept 0 n s.node0 k, node-erased kept g n h k)

  -- the local root has arc Root, so it stays
  gone-no-local-root : (n : ℕ) → n < size g → kept n ≡ false → is_local_root g.nodes n ≡ false
  unfolding is_local_root
  gone-no-local-root n h k = rw (ne_eqb (node_at g.nodes n).arc root_arc (λ e. false≢true (sym k ∙ s.roots n h e))) (and-false (ltb 0 n))

  local-stack-erased : (n : ℕ) → n < size g → kept n ≡ true → in_local_stack (erase_by kept g).nodes (new_number kept n) ≡ in_local_stack g.nodes n
  unfolding in_local_stack
  local-stack-erased n h k =
      rw (size-erased kept g)
      (any-below-kept kept (λ i. is_local_root g.nodes i && eqb (node_at g.nodes i).stack (node_at g.nodes n).stack) _ (size g)
      (λ i l m. rw (local-root-erased i l m, node-erased kept g i l m, node-erased kept g n h k)) (λ i l m. rw (gone-no-local-root i l m)))

  same-site-erased : (a b : ℕ) → a < size g → b < size g → kept a ≡ true → kept b ≡ true
      → (view (erase_by kept g).nodes).same_site (new_number kept a) (new_number kept b) ≡ (view g.nodes).same_site a b
  unfolding same_site
  same-site-erased a b l m k j = ap₂ same_site (node-erased kept g a l k) (node-erased kept g b m j)

  same-depth-below-erased : (a b : ℕ) → a < size g → b < size g → kept a ≡ true → kept b ≡ true
      → (view (erase_by kept g).nodes).same_depth_below (new_number kept a) (new_number kept b) ≡ (view g.nodes).same_depth_below a b
  same-depth-below-erased a b l m k j =
      rw (new-number-ltb kept 0 a s.node0 k, new-number-ltb kept 0 b s.node0 j)
      (behind-tests (ltb 0 a) (ltb 0 b) _ _ (λ p q. ap₂ eqb (depth-below-erased a (ltb-true 0 a p) l k) (depth-below-erased b (ltb-true 0 b q) m j)))

  pub erase-looks-like : LooksLike (size g) kept (new_number kept) (view g.nodes) (view (erase_by kept g).nodes)
  erase-looks-like = record {
    root_kept = s.node0;
    root-stays = refl;
    same_number = new-number-eqb kept;
    same-sequence = new-number-ltb kept;
    parent-kept = s.parent;
    origin-kept = s.origin;
    parents = parent-erased;
    origins = origin-erased;
    ranks = λ a l k. ap (λ (x : Node). arc_rank x.arc) (node-erased kept g a l k);
    arcs = λ a l k. ap (λ (x : Node). x.arc) (node-erased kept g a l k);
    specials = λ a l k. ap has_specializes (node-erased kept g a l k);
    depths = λ a l k. ap (λ (x : Node). x.depth) (node-erased kept g a l k);
    siblings = λ a l k. ap (λ (x : Node). x.sibling) (node-erased kept g a l k);
    sites = same-site-erased;
    depths-below = same-depth-below-erased;
    local-roots = local-root-erased;
    local-stacks = local-stack-erased;
  }

-- ---- The tree

module _ (kept : ℕ → Bool) (g : Graph) (l : length g.children ≡ size g) (s : Spares g kept) (legal : LegalView (size g) (view g.nodes))
    (tree : TreeOf g) where
  once-erased : (c : ℕ) → c < size g → kept c ≡ true → 0 < new_number kept c
      → count (new_number kept c) (children_of (erase_by kept g) (node_at (erase_by kept g).nodes (new_number kept c)).parent) ≡ 1
  once-erased c q k p =
      let h : 0 < c = new-number-positive kept c p in
      let v : ℕ = (node_at g.nodes c).parent in
      rw (
        parent-erased kept g s legal c h q k,
        children-erased kept g l v (omega (arith, legal.parent-lower c h q)) (s.parent c h q k),
        count_kept kept c (children_of g v) k,
      )
      (tree.once c h q)

  only-erased : (v : ℕ) → v < size g → kept v ≡ true → (c : ℕ) → 0 < count c (children_of (erase_by kept g) (new_number kept v))
      → Child (size (erase_by kept g)) (view (erase_by kept g).nodes).parent (new_number kept v) c
  only-erased v q k c m =
      let r = kept-counted kept c (children_of g v) (rw (children-erased kept g l v q k) at m) in
      let child = tree.only v r.0 r.3 in
      subst (Child (size (erase_by kept g)) (view (erase_by kept g).nodes).parent (new_number kept v)) r.2 (
        new-number-grows kept 0 r.0 s.node0 child.0,
        rw (size-erased kept g) (new-number-grows kept r.0 (size g) r.1 child.1),
        parent-erased kept g s legal r.0 child.0 child.1 r.1 ∙ ap (new_number kept) child.2,
      )

  pub tree-erased : TreeOf (erase_by kept g)
  tree-erased = record {
    lower = (legal-erased kept g s legal).parent-lower;
    once = λ c h q.
        at-new-numbers kept (λ c. 0 < c → count c (children_of (erase_by kept g) (node_at (erase_by kept g).nodes c).parent) ≡ 1) (size g)
        once-erased c (rw (size-erased kept g) at q) h;
    only = λ v c m. only v c m (ltb v (new_number kept (size g))) refl;
  }
    where
      only : (v c : ℕ) → 0 < count c (children_of (erase_by kept g) v) → (b : Bool) → ltb v (new_number kept (size g)) ≡ b
          → Child (size (erase_by kept g)) (view (erase_by kept g).nodes).parent v c
      only v c m true e =
          at-new-numbers kept
          (λ v. 0 < count c (children_of (erase_by kept g) v) → Child (size (erase_by kept g)) (view (erase_by kept g).nodes).parent v c)
          (size g) (λ v q k. only-erased v q k c) v (ltb-true v (new_number kept (size g)) e) m
      only v c m false e =
          let beyond : size (erase_by kept g) ≤ v = omega (arith, size-erased kept g, ltb-false v (new_number kept (size g)) e) in
          absurd (omega (arith, ap (count c) (no-children-beyond kept g l v beyond)))

-- ---- The walk

module _ (kept : ℕ → Bool) (g : Graph) (l : length g.children ≡ size g) (s : Spares g kept) (legal : LegalView (size g) (view g.nodes))
    (tree : TreeOf g) where
  -- below what goes all goes
  child-goes : (v c : ℕ) → kept v ≡ false → Child (size g) (view g.nodes).parent v c → kept c ≡ false
  child-goes v c k h = go (kept c) refl
    where
      go : (b : Bool) → kept c ≡ b → b ≡ false
      go true e = sym (s.parent c h.0 h.1 e) ∙ ap kept h.2 ∙ k
      go false e = refl

  walk-goes : (f v : ℕ) → kept v ≡ false → filter kept (walk_up_to (children_of g) f v) ≡ []
  walk-goes zero v k = refl
  walk-goes (suc f) v k =
      rw k (concat-goes kept (λ c. walk_up_to (children_of g) f c) (children_of g v)
      (all-imp (Child (size g) (view g.nodes).parent v) (λ c. filter kept (walk_up_to (children_of g) f c) ≡ []) (children_of g v)
      (λ c h. walk-goes f c (child-goes v c k h)) (all-children (size g) (view g.nodes).parent (children_of g) tree v)))

  walk-stays : (f v : ℕ) → v < size g → kept v ≡ true
      → walk_up_to (children_of (erase_by kept g)) f (new_number kept v) ≡ map (new_number kept) (filter kept (walk_up_to (children_of g) f v))
  walk-stays zero v q k = refl
  walk-stays (suc f) v q k =
      rw (children-erased kept g l v q k, k) (ap (λ r. new_number kept v ∷ r)
      (concat-kept kept (λ c. walk_up_to (children_of g) f c) (λ c. walk_up_to (children_of (erase_by kept g)) f c) (children_of g v)
      (all-imp (Child (size g) (view g.nodes).parent v) _ (children_of g v)
      (λ c h. (walk-stays f c h.1, walk-goes f c)) (all-children (size g) (view g.nodes).parent (children_of g) tree v))))

  -- the walk of what is left is the old one without what went
  pub walk-erased : walk (children_of (erase_by kept g)) (size (erase_by kept g)) ≡ map (new_number kept) (filter kept (walk (children_of g) (size g)))
  walk-erased = go (size g) refl
    where
      go : (n : ℕ) → size g ≡ n
          → walk (children_of (erase_by kept g)) (size (erase_by kept g)) ≡ map (new_number kept) (filter kept (walk (children_of g) (size g)))
      go zero e = rw (size-erased kept g, e)
      go (suc n) e =
          let some : 0 < size (erase_by kept g) = omega (arith, size-erased kept g, new-number-grows kept 0 (size g) s.node0 (omega arith)) in
          walk-fuel (size (erase_by kept g)) (view (erase_by kept g).nodes).parent (children_of (erase_by kept g)) (tree-erased kept g l s legal tree)
          (size (erase_by kept g)) (size g) 0 some (omega arith) (omega (arith, size-erased kept g, new-number-no-larger kept (size g)))
          ∙ walk-stays (size g) 0 (omega arith) s.node0
