-- Erasing a set that question 11 accepts leaves a graph legal (`erased-legal`), and in order where
-- it was (`erased-in-order`): child lists that are sorted stay so without what went, because
-- siblings compare as before.
-- Assumes nothing.
use mathlib.Core.Path.{◌≡◌, refl, sym, ap, ◌∙◌, subst}
use mathlib.Core.Bool.{Bool, true, false, not, cond}
use mathlib.Core.List.{List, [], ◌∷◌, map}
use Prim.Native.Nat.{ℕ, suc, ◌≤◌, ◌<◌}
use native.Mathlib.Omega.{arith}
use borrow.Author.Tests.{ltb-true}
use Rattle.model.specs.Lists.{filter, keep_at}
use Rattle.model.specs.Path.{prim_count}
use Rattle.model.specs.Node.{root_arc, Node, is_inert}
use Rattle.model.specs.Graph.{Graph, size, node_at, children_of}
use Rattle.model.specs.Strength.{view}
use Rattle.model.specs.Order.{Sorted, is_stronger}
use Rattle.model.specs.Erasing.{stays, can_erase, new_number, renumbered, erase_by, erase}
use Rattle.model.specs.Refusals.{ask, path_bytes}
use Rattle.model.specs.Calls.{has_node_zero, erase_set}
use Rattle.laws.proofs.Views.{LooksLike}
use Rattle.laws.proofs.ListLaws.{pairs-imp, pairs-map, pairs-filter, all_filter}
use Rattle.laws.proofs.Trees.{Child, all-children}
use Rattle.laws.proofs.OrderLaws.{InOrder}
use Rattle.laws.proofs.Spares.{Spares}
use Rattle.laws.proofs.EraseSets.{can-erase-iff}
use Rattle.laws.proofs.EraseLists.{new-number-no-larger, new-number-grows, new-number-positive, at-new-numbers}
use Rattle.laws.proofs.EraseLaws.{size-erased, node-erased, children-length-erased, children-erased, order-erased, marks-erased, node0-links-erased, legal-erased, erase-looks-like, tree-erased, walk-erased}
use Rattle.laws.proofs.LegalGraphs.{RootRecord, LegalNode, LocalRoot, DepthsReached, Legal}
use Rattle.laws.proofs.LegalAlike.{stronger-alike}
use Rattle.laws.proofs.AcceptedQuestions.{decided-keeps}

-- ---- Path bytes

path-bytes-kept : (kept : ℕ → Bool) (ns : List Node) → path_bytes (keep_at kept ns) ≤ path_bytes ns
path-bytes-kept kept [] = omega arith
path-bytes-kept kept (x ∷ ns) = go (kept 0) (path-bytes-kept (λ n. kept (suc n)) ns)
  where
    go : (b : Bool) → path_bytes (keep_at (λ n. kept (suc n)) ns) ≤ path_bytes ns
        → path_bytes (cond b (x ∷ keep_at (λ n. kept (suc n)) ns) (keep_at (λ n. kept (suc n)) ns)) ≤ path_bytes (x ∷ ns)
    go true h = omega arith
    go false h = omega arith

path-bytes-renumbered : (kept : ℕ → Bool) (count : ℕ) (ns : List Node) → path_bytes (map (renumbered kept count) ns) ≡ path_bytes ns
path-bytes-renumbered kept count [] = refl
path-bytes-renumbered kept count (x ∷ ns) = omega (arith, path-bytes-renumbered kept count ns)

path-bytes-erased : (kept : ℕ → Bool) (g : Graph) → path_bytes (erase_by kept g).nodes ≤ path_bytes g.nodes
unfolding erase_by
path-bytes-erased kept g =
    omega (arith, path-bytes-renumbered kept (size g) (keep_at kept g.nodes), path-bytes-kept kept g.nodes)

-- ---- Nodes

module _ (kept : ℕ → Bool) (g : Graph) (legal : Legal g) (s : Spares g kept) where
  looks-like : LooksLike (size g) kept (new_number kept) (view g.nodes) (view (erase_by kept g).nodes)
  looks-like = erase-looks-like kept g s legal.links

  -- what holds of each node that stays, renumbered, holds of each node that is left
  each-erased : (P : Node → Type 0) → ((n : ℕ) → n < size g → P (renumbered kept (size g) (node_at g.nodes n)))
      → (n : ℕ) → n < size (erase_by kept g) → P (node_at (erase_by kept g).nodes n)
  each-erased P old n h =
      at-new-numbers kept (λ n. P (node_at (erase_by kept g).nodes n)) (size g) (λ n l k. subst P (sym (node-erased kept g n l k)) (old n l)) n
      (rw (size-erased kept g) at h)

  node-0-erased : 0 < size g → RootRecord (node_at (erase_by kept g).nodes 0)
  node-0-erased some-node =
      let root = legal.node-0 some-node in
      let links = node0-links-erased kept g s some-node legal.few-nodes root.no-parent root.no_origin in
      let same = node-erased kept g 0 some-node s.node0 in
      record {
        arc = ap (λ (x : Node). x.arc) same ∙ root.arc;
        inert = ap is_inert same ∙ root.inert;
        no-parent = links.0;
        no_origin = links.1;
      }

  -- a local root that is left was one
  local-root-was : (n : ℕ) → LocalRoot (erase_by kept g) n → (m : ℕ) × LocalRoot g m × (kept m ≡ true) × (new_number kept m ≡ n)
  local-root-was n r =
      at-new-numbers kept
      (λ n. 0 < n → (node_at (erase_by kept g).nodes n).arc ≡ root_arc → (m : ℕ) × LocalRoot g m × (kept m ≡ true) × (new_number kept m ≡ n)) (size g)
      (λ m l k p e. (m, (new-number-positive kept m p, l, sym (ap (λ (x : Node). x.arc) (node-erased kept g m l k)) ∙ e), k, refl)) n
      (rw (size-erased kept g) at r.1) r.0 r.2

  under-0-erased : (n : ℕ) → LocalRoot (erase_by kept g) n → (node_at (erase_by kept g).nodes n).parent ≡ 0
  under-0-erased n r =
      let was = local-root-was n r in
      subst (λ n. (node_at (erase_by kept g).nodes n).parent ≡ 0) was.3
      (looks-like.parents was.0 was.1.0 was.1.1 was.2 ∙ ap (new_number kept) (legal.local-root-under-0 was.0 was.1))

  one-local-root-erased : (a b : ℕ) → LocalRoot (erase_by kept g) a → LocalRoot (erase_by kept g) b → a ≡ b
  one-local-root-erased a b r t =
      let x = local-root-was a r in
      let y = local-root-was b t in
      sym x.3 ∙ ap (new_number kept) (legal.one-local-root x.0 y.0 x.1 y.1) ∙ y.3

  depths-reached-erased : DepthsReached g → DepthsReached (erase_by kept g)
  depths-reached-erased reached c h l =
      at-new-numbers kept (λ c. 0 < c → (node_at ns c).depth ≤ prim_count (node_at ns (node_at ns c).parent).path) (size g) at-kept c
      (rw (size-erased kept g) at l) h
    where
      ns : List Node
      ns = (erase_by kept g).nodes

      at-kept : (c : ℕ) → c < size g → kept c ≡ true → 0 < new_number kept c
          → (node_at ns (new_number kept c)).depth ≤ prim_count (node_at ns (node_at ns (new_number kept c)).parent).path
      at-kept c l k p =
          let h : 0 < c = new-number-positive kept c p in
          let v : ℕ = (node_at g.nodes c).parent in
          let above : v < size g = omega (arith, legal.links.parent-lower c h l) in
          rw (
            looks-like.depths c l k,
            looks-like.parents c h l k,
            ap (λ (x : Node). x.path) (node-erased kept g v above (s.parent c h l k)),
          )
          (reached c h l)

  -- ---- The order

  sorted-erased : (v : ℕ) → v < size g → kept v ≡ true → Sorted (is_stronger g) (children_of g v)
      → Sorted (is_stronger (erase_by kept g)) (children_of (erase_by kept g) (new_number kept v))
  sorted-erased v h k sorted =
      rw (children-erased kept g legal.lengths v h k)
      (pairs-map (λ a b. is_stronger (erase_by kept g) a b ≡ true) (new_number kept) (filter kept (children_of g v))
      (pairs-imp (λ c. (kept c ≡ true) × Child (size g) (view g.nodes).parent v c) (λ a b. is_stronger g a b ≡ true)
      (λ a b. is_stronger (erase_by kept g) (new_number kept a) (new_number kept b) ≡ true)
      (λ a b p q e. stronger-alike g (erase_by kept g) kept (new_number kept) legal.links looks-like a b p.1.1 q.1.1 p.0 q.0 ∙ e)
      (filter kept (children_of g v))
      (all_filter (Child (size g) (view g.nodes).parent v) kept (children_of g v)
      (all-children (size g) (view g.nodes).parent (children_of g) legal.tree v))
      (pairs-filter (λ a b. is_stronger g a b ≡ true) kept (children_of g v) sorted)))

  pub erased-in-order : InOrder g → InOrder (erase_by kept g)
  erased-in-order o = record {
    sorted = λ v h.
        at-new-numbers kept (λ v. Sorted (is_stronger (erase_by kept g)) (children_of (erase_by kept g) v)) (size g)
        (λ v l k. sorted-erased v l k (o.sorted v l)) v (rw (size-erased kept g) at h);
    walked =
        order-erased kept g ∙ ap (λ (l : List ℕ). map (new_number kept) (filter kept l)) o.walked
        ∙ sym (walk-erased kept g legal.lengths s legal.links legal.tree);
  }

  -- ---- The graph

  -- node 0 stays
  pub some-node-left : 0 < size g → 0 < size (erase_by kept g)
  some-node-left some-node = rw (size-erased kept g) (new-number-grows kept 0 (size g) s.node0 some-node)

  pub erased-legal : 0 < size g → Legal (erase_by kept g)
  erased-legal some-node = record {
    lengths = children-length-erased kept g legal.lengths;
    tree = tree-erased kept g legal.lengths s legal.links legal.tree;
    links = legal-erased kept g s legal.links;
    node-0 = λ h. node-0-erased some-node;
    node = each-erased LegalNode (λ n h. let x = legal.node n h in
        record { path = x.path; arc = x.arc; has-specs = x.has-specs; root-unculled = x.root-unculled });
    local-root-under-0 = under-0-erased;
    one-local-root = one-local-root-erased;
    few-nodes = omega (arith, size-erased kept g, new-number-no-larger kept (size g), legal.few-nodes);
    few-path-bytes = omega (arith, path-bytes-erased kept g, legal.few-path-bytes);
    not-shallow = λ e. depths-reached-erased (legal.not-shallow (sym (marks-erased kept g).2 ∙ e));
    final = λ e. let both = legal.final (sym (marks-erased kept g).1 ∙ e) in ((marks-erased kept g).0 ∙ both.0, (marks-erased kept g).2 ∙ both.1);
    no-order = λ e.
        order-erased kept g ∙ ap (λ (l : List ℕ). map (new_number kept) (filter kept l)) (legal.no-order (sym (marks-erased kept g).0 ∙ e));
    in_order = λ e. erased-in-order (legal.in_order (sym (marks-erased kept g).0 ∙ e));
    ordered-final = λ e some.
        (marks-erased kept g).1 ∙ legal.ordered-final (sym (marks-erased kept g).0 ∙ e) some-node ∙ ap not (sym (marks-erased kept g).2);
  }

pub erasing-keeps-legal : (bytes : List ℕ) (g : Graph) → Legal g → Legal (erase_set bytes g).graph
unfolding erase_set
erasing-keeps-legal bytes g legal =
    decided-keeps (has_node_zero g ∷ ask 11 (can_erase g bytes) ∷ []) g (new_number (stays bytes) (size g)) (erase bytes g) Legal refl
    (λ a. let some-node = ltb-true 0 (size g) (a 3) in
    erased-legal (stays bytes) g legal ((can-erase-iff g bytes (legal.node-0 some-node).arc).0 (a 11)).1 some-node) legal
