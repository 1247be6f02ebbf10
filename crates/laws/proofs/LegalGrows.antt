-- The records of a legal graph, each put to the graph of those before it, pass questions 4 to 7:
-- `legal-grows`; and of records that pass them the graph built is legal: `grows-legal`. Assumes
-- nothing.
use mathlib.Core.Path.{◌≡◌, refl, sym, ap, subst, ◌∙◌}
use mathlib.Core.Bool.{Bool, true, false, not, ◌||◌, ◌&&◌, and-eq-true_iff}
use mathlib.Core.List.{List, [], ◌∷◌, ◌++◌, foldl}
use Prim.Native.Nat.{ℕ, ◌+◌, ◌<◌}
use native.Mathlib.Omega.{arith}
use lib.Dec.{eqb, ltb}
use lib.ListN.{length, length-append, get_or-append}
use lib.Seq.{append_snoc, get_or-append_seam}
use borrow.Author.Tests.{eqb-true, eqb-false, eq-eqb, ltb-true, lt-ltb, le-leb}
use Rattle.model.specs.Node.{invalid, root_arc, Node, no_node, is_culled}
use Rattle.model.specs.Graph.{Graph, empty_graph, size, node_at, with_node, is_local_root, has_local_root}
use Rattle.model.specs.Refusals.{most_nodes, most_path_bytes, path_bytes, has_room, arc_allowed, read_kind, links_allowed, record_questions, refusal}
use Rattle.laws.proofs.ListLaws.{any-below-fails}
use Rattle.laws.proofs.SnapshotReadLaws.{built, GrowsFrom, Grows}
use Rattle.laws.proofs.LegalGraphs.{RootRecord, LocalRoot, Legal, empty-legal}
use Rattle.laws.proofs.AcceptedQuestions.{none-refused-accepted}
use Rattle.laws.proofs.LegalAdded.{Addable, path-bytes-append, node-more-keeps-legal, read-addable}

-- ---- A node that a graph may get passes the questions

module _ (g : Graph) (x : Node) (new : Addable g x) where
  links-pass : links_allowed g x ≡ true
  links-pass = go (eqb (size g) 0) refl
    where
      go : (t : Bool) → eqb (size g) 0 ≡ t → links_allowed g x ≡ true
      go true e =
          let root = new.first (eqb-true (size g) 0 e) in
          rw (e, eq-eqb x.arc root_arc root.arc, root.inert, eq-eqb x.parent invalid root.no-parent)
          (eq-eqb x.origin invalid root.no_origin)
      go false e =
          let some-node : 0 < size g = omega (arith, eqb-false (size g) 0 e) in
          rw (e, lt-ltb x.parent (size g) (new.parent-lower some-node)) (lt-ltb x.origin (size g) (new.origin-lower some-node))

  arc-passes : arc_allowed g x ≡ true
  arc-passes = rw (le-leb x.arc 6 new.record-legal.arc) (go (eqb x.arc root_arc) refl (eqb (size g) 0) refl)
    where
      go : (r : Bool) → eqb x.arc root_arc ≡ r → (t : Bool) → eqb (size g) 0 ≡ t
          → (not r || (t || (eqb x.parent 0 && not (has_local_root g.nodes)))) ≡ true
      go false q t e = refl
      go true q true e = refl
      go true q false e =
          let only = new.local-root (omega (arith, eqb-false (size g) 0 e)) (eqb-true x.arc root_arc q) in
          rw (eq-eqb x.parent 0 only.0, only.1)

  kind-passes : read_kind g x ≡ true
  kind-passes = rw arc-passes (rw (go (eqb x.arc root_arc) refl) (le-leb x.has_specs 1 new.record-legal.has-specs))
    where
      go : (r : Bool) → eqb x.arc root_arc ≡ r → not (r && is_culled x) ≡ true
      go false q = refl
      go true q = rw (new.record-legal.root-unculled (eqb-true x.arc root_arc q))

  room-passes : has_room g x ≡ true
  room-passes =
      rw (lt-ltb (size g) most_nodes new.node-fits) (le-leb (path_bytes g.nodes + length x.path) most_path_bytes new.path-fits)

  pub addable-accepted : refusal (record_questions g x) ≡ 0
  addable-accepted = rw (links-pass, new.record-legal.path, kind-passes, room-passes)

-- ---- A legal graph's nodes, one after the other

module _ (g : Graph) (legal : Legal g) where
  -- h holds the nodes before x
  module _ (h : Graph) (x : Node) (xs : List Node) (e : h.nodes ++ x ∷ xs ≡ g.nodes) where
    this : node_at g.nodes (size h) ≡ x
    this = rw (← e) (get_or-append_seam h.nodes x xs no_node)

    before : (n : ℕ) → n < size h → node_at g.nodes n ≡ node_at h.nodes n
    before n l = rw (← e) (get_or-append h.nodes (x ∷ xs) no_node n l)

    below : size h < size g
    below = omega (arith, length-append h.nodes (x ∷ xs), ap length e)

    is-local-root : 0 < size h → x.arc ≡ root_arc → LocalRoot g (size h)
    is-local-root some-node root = (some-node, below, ap (λ (y : Node). y.arc) this ∙ root)

    first-local-root : 0 < size h → x.arc ≡ root_arc → has_local_root h.nodes ≡ false
    unfolding is_local_root
    first-local-root some-node root = (any-below-fails (is_local_root h.nodes) (size h)).1 (λ n l. go n l (is_local_root h.nodes n) refl)
      where
        go : (n : ℕ) → n < size h → (t : Bool) → is_local_root h.nodes n ≡ t → t ≡ false
        go n l false q = refl
        go n l true q =
            let both = (and-eq-true_iff (ltb 0 n) (eqb (node_at h.nodes n).arc root_arc)).0 q in
            let same = legal.one-local-root n (size h) (
              ltb-true 0 n both.0,
              omega (arith, below),
              ap (λ (y : Node). y.arc) (before n l) ∙ eqb-true (node_at h.nodes n).arc root_arc both.1,
            ) (is-local-root some-node root) in
            absurd (omega arith)

    addable : Addable h x
    addable = record {
      first = λ none. subst RootRecord (ap (node_at g.nodes) (sym none) ∙ this) (legal.node-0 (omega (arith, below)));
      parent-lower = λ some-node. rw this at (legal.links.parent-lower (size h) some-node below);
      origin-lower = λ some-node. rw this at (legal.links.origin-lower (size h) some-node below);
      record-legal = rw this at (legal.node (size h) below);
      local-root = λ some-node root. (
        ap (λ (y : Node). y.parent) (sym this) ∙ legal.local-root-under-0 (size h) (is-local-root some-node root),
        first-local-root some-node root,
      );
      node-fits = omega (arith, below, legal.few-nodes);
      path-fits = omega (arith, path-bytes-append h.nodes (x ∷ xs), ap path_bytes e, legal.few-path-bytes);
    }

  legal-grows-from : (h : Graph) (xs : List Node) → h.nodes ++ xs ≡ g.nodes → GrowsFrom h xs
  unfolding with_node
  legal-grows-from h [] e = tt
  legal-grows-from h (x ∷ xs) e = (
    addable-accepted h x (addable h x xs e),
    legal-grows-from (with_node h x) xs (append_snoc h.nodes x xs ∙ e),
  )

  pub legal-grows : Grows g.nodes
  legal-grows = legal-grows-from empty_graph g.nodes refl

-- ---- And back

grows-legal-from : (g : Graph) (xs : List Node) → Legal g → GrowsFrom g xs → Legal (foldl with_node g xs)
grows-legal-from g [] legal h = legal
grows-legal-from g (x ∷ xs) legal h =
    grows-legal-from (with_node g x) xs
    (node-more-keeps-legal g x legal (read-addable g x (none-refused-accepted (record_questions g x) refl h.0))) h.1

pub grows-legal : (xs : List Node) → Grows xs → Legal (built xs)
grows-legal xs h = grows-legal-from empty_graph xs empty-legal h
