-- Ordering, culling, setting fields of one node and deepening leave a graph legal: they keep the
-- nodes, and of each node what a comparison sees. Assumes nothing.
use mathlib.Core.Path.{◌≡◌, refl, sym, ap, ◌∙◌}
use mathlib.Core.Bool.{Bool, true, false, not, ◌||◌, ◌&&◌, cond, true≢false, and-eq-true_iff}
use mathlib.Core.List.{List, [], ◌∷◌}
use Prim.Native.Nat.{ℕ, zero, suc, ◌≤◌, ◌<◌}
use native.Mathlib.Omega.{arith}
use lib.Dec.{leb}
use lib.ListN.{length}
use borrow.Author.Tests.{leb-true, not-true}
use Rattle.model.specs.Path.{well_formed, last_name, ends_in_name}
use Rattle.model.specs.Node.{root_arc, Node, is_inert, is_culled}
use Rattle.model.specs.Graph.{Graph, size, node_at, children_of}
use Rattle.model.specs.Strength.{view}
use Rattle.model.specs.Order.{is_less, is_stronger, has_order, ordering}
use Rattle.model.specs.Culling.{cull_subtrees_without_opinions}
use Rattle.model.specs.Deepening.{deepen, append_child_name_to_all_sites}
use Rattle.model.specs.Refusals.{ask, most_path_bytes, path_bytes}
use Rattle.model.specs.Calls.{has_node_zero, finalize_strength_order, cull, short_paths, paths_fit, deepen_questions, append_child_name, seed_child}
use Rattle.laws.proofs.PathGrammar.{Name, well-formed-may-end}
use Rattle.laws.proofs.PathLaws.{append-well-formed, last-name-is-name}
use Rattle.laws.proofs.Views.{LegalView, LooksLike}
use Rattle.laws.proofs.ListLaws.{pairs-imp}
use Rattle.laws.proofs.Trees.{Child, all-children}
use Rattle.laws.proofs.StrengthCongruence.{siblings-alike}
use Rattle.laws.proofs.OrderLaws.{InOrder, lengths-ordering, tree-ordering, ordering-in-order}
use Rattle.laws.proofs.SeenLaws.{SeenAlike, view-kept, path-bytes-kept}
use Rattle.laws.proofs.StrengthLaws.{looks-like-itself}
use Rattle.laws.proofs.CullingLaws.{culling-only-culls, culling-seen-alike}
use Rattle.laws.proofs.DeepenLaws.{size-deepened, node-deepened, legal-deepened, children-deepened, tree-deepened, reached-deepened, deepen-looks-like}
use Rattle.laws.proofs.LegalGraphs.{RootRecord, LegalNode, LocalRoot, Legal, legal-reached}
use Rattle.laws.proofs.AcceptedQuestions.{Accepted, decided-keeps, decided-leaves}

-- ---- Graphs that look alike

-- of two that are kept, the stronger sibling is the stronger by their new numbers
pub stronger-alike : (g h : Graph) (keep : ℕ → Bool) (r : ℕ → ℕ) → LegalView (size g) (view g.nodes)
    → LooksLike (size g) keep r (view g.nodes) (view h.nodes)
    → (a b : ℕ) → a < size g → b < size g → keep a ≡ true → keep b ≡ true → is_stronger h (r a) (r b) ≡ is_stronger g a b
unfolding is_stronger
stronger-alike g h keep r links like a b l m k j = ap is_less (siblings-alike links like a b l m k j)

-- with the same child lists and the same order, a graph that looks alike is in order too
in-order-alike : (g h : Graph) → Legal g → size h ≡ size g → h.children ≡ g.children → h.order ≡ g.order
    → LooksLike (size g) (λ n. true) (λ n. n) (view g.nodes) (view h.nodes) → InOrder g → InOrder h
unfolding is_stronger
in-order-alike g h legal same_size same-children same-order like o = record {
  sorted = λ v l.
      rw same-children
      (pairs-imp (Child (size g) (view g.nodes).parent v) (λ a b. is_stronger g a b ≡ true) (λ a b. is_stronger h a b ≡ true)
      (λ a b p q e. stronger-alike g h (λ n. true) (λ n. n) legal.links like a b p.1 q.1 refl refl ∙ e) (children_of g v)
      (all-children (size g) (view g.nodes).parent (children_of g) legal.tree v) (o.sorted v (rw same_size at l)));
  walked = rw (same-order, same_size, same-children) o.walked;
}

-- ---- Ordering

pub ordered-legal : (g : Graph) → has_order g ≡ true → Legal g → Legal (ordering g)
unfolding ordering
ordered-legal g e legal = record {
  lengths = lengths-ordering g legal.lengths;
  tree = tree-ordering g legal.tree;
  links = legal.links;
  node-0 = legal.node-0;
  node = legal.node;
  local-root-under-0 = legal.local-root-under-0;
  one-local-root = legal.one-local-root;
  few-nodes = legal.few-nodes;
  few-path-bytes = legal.few-path-bytes;
  not-shallow = legal.not-shallow;
  final = λ f. (refl, not-true g.shallow f);
  no-order = λ f. absurd (true≢false f);
  in_order = λ f. ordering-in-order g e;
  ordered-final = λ f some. refl;
}

pub ordering-keeps-legal : (g : Graph) → Legal g → Legal (finalize_strength_order g).graph
unfolding finalize_strength_order
ordering-keeps-legal g legal =
    decided-keeps (has_node_zero g ∷ ask 9 (g.finalized || has_order g) ∷ []) g 0 (cond g.finalized g (ordering g)) Legal refl
    (λ a. go g.finalized (a 9)) legal
  where
    go : (b : Bool) → (b || has_order g) ≡ true → Legal (cond b g (ordering g))
    go true e = legal
    go false e = ordered-legal g e legal

-- ---- Fields that no comparison sees

-- The child lists, the order and the marks stay, and of each node all that a comparison sees; what
-- is new of a record is legal by itself.
pub record OnlySet (g h : Graph) : Type 0 where
  pub seen : SeenAlike g.nodes h.nodes
  pub children : h.children ≡ g.children
  pub order : h.order ≡ g.order
  pub ordered : h.ordered ≡ g.ordered
  pub finalized : h.finalized ≡ g.finalized
  pub shallow : h.shallow ≡ g.shallow
  pub inert : 0 < size g → is_inert (node_at h.nodes 0) ≡ true
  pub specs : (n : ℕ) → n < size g → (node_at h.nodes n).has_specs ≤ 1
  pub root-unculled : (n : ℕ) → n < size g → (node_at g.nodes n).arc ≡ root_arc → is_culled (node_at h.nodes n) ≡ false

module _ (g h : Graph) (legal : Legal g) (only : OnlySet g h) where
  same_size : size h ≡ size g
  same_size = only.seen.same_length

  same_view : view h.nodes ≡ view g.nodes
  same_view = view-kept g.nodes h.nodes only.seen

  local-root-set : (n : ℕ) → LocalRoot h n → LocalRoot g n
  local-root-set n r = (r.0, rw same_size at r.1, sym (only.seen.node n).arc ∙ r.2)

  node-0-set : 0 < size g → RootRecord (node_at h.nodes 0)
  node-0-set some-node =
      let root = legal.node-0 some-node in
      let same = only.seen.node 0 in
      record { arc = same.arc ∙ root.arc; inert = only.inert some-node; no-parent = same.parent ∙ root.no-parent; no_origin = same.origin ∙ root.no_origin }

  node-set-legal : (n : ℕ) → n < size g → LegalNode (node_at h.nodes n)
  node-set-legal n l =
      let x = legal.node n l in
      let same = only.seen.node n in
      record {
        path = rw same.path x.path;
        arc = rw same.arc x.arc;
        has-specs = only.specs n l;
        root-unculled = λ e. only.root-unculled n l (sym same.arc ∙ e);
      }

  pub only-set-legal : Legal h
  only-set-legal = record {
    lengths = rw (only.children, same_size) legal.lengths;
    tree = rw (only.children, same_size, same_view) legal.tree;
    links = rw (same_size, same_view) legal.links;
    node-0 = λ l. node-0-set (rw same_size at l);
    node = λ n l. node-set-legal n (rw same_size at l);
    local-root-under-0 = λ n r. (only.seen.node n).parent ∙ legal.local-root-under-0 n (local-root-set n r);
    one-local-root = λ a b r s. legal.one-local-root a b (local-root-set a r) (local-root-set b s);
    few-nodes = rw same_size legal.few-nodes;
    few-path-bytes = rw (path-bytes-kept g.nodes h.nodes only.seen) legal.few-path-bytes;
    not-shallow = λ e c p l.
        let same = only.seen.node in
        rw ((same c).depth, (same c).parent, (same (node_at g.nodes c).parent).path)
        (legal.not-shallow (sym only.shallow ∙ e) c p (rw same_size at l));
    final = λ e. let both = legal.final (sym only.finalized ∙ e) in (only.ordered ∙ both.0, only.shallow ∙ both.1);
    no-order = λ e. only.order ∙ legal.no-order (sym only.ordered ∙ e);
    in_order = λ e.
        in-order-alike g h legal same_size only.children only.order
        (rw same_view (looks-like-itself (size g) (view g.nodes))) (legal.in_order (sym only.ordered ∙ e));
    ordered-final = λ e some.
        only.finalized ∙ legal.ordered-final (sym only.ordered ∙ e) (rw same_size at some) ∙ ap not (sym only.shallow);
  }

-- ---- Culling

-- culling sets no more than CULLED, and none at a Root arc
culling-only-sets : (g : Graph) → Legal g → OnlySet g (cull_subtrees_without_opinions g)
unfolding cull_subtrees_without_opinions
culling-only-sets g legal = record {
  seen = culling-seen-alike g;
  children = refl;
  order = refl;
  ordered = refl;
  finalized = refl;
  shallow = refl;
  inert = λ some-node. let root = legal.node-0 some-node in rw (((culling-only-culls g).node 0).root-stays root.arc) root.inert;
  specs = λ n l. rw ((culling-only-culls g).node n).has-specs (legal.node n l).has-specs;
  root-unculled = λ n l e. rw (((culling-only-culls g).node n).root-stays e) ((legal.node n l).root-unculled e);
}

pub culling-keeps-legal : (g : Graph) → Legal g → Legal (cull g).graph
unfolding cull
culling-keeps-legal g legal = decided-keeps (has_node_zero g ∷ []) g 0 (cull_subtrees_without_opinions g) Legal refl
    (λ a. only-set-legal g (cull_subtrees_without_opinions g) legal (culling-only-sets g legal)) legal

-- ---- Deepening

pub short-paths : (ns : List Node) → short_paths ns ≡ true → (n : ℕ) → n < length ns → length (node_at ns n).path ≤ 255
short-paths [] e n h = absurd (omega arith)
short-paths (x ∷ ns) e zero h = leb-true (length x.path) 255 ((and-eq-true_iff (leb (length x.path) 255) (short_paths ns)).0 e).0
short-paths (x ∷ ns) e (suc n) h = short-paths ns ((and-eq-true_iff (leb (length x.path) 255) (short_paths ns)).0 e).1 n (omega arith)

-- "keeps both if finalized, else clears ordered"
marks-deepened : (name : List ℕ) (g : Graph) → ((deepen name g).finalized ≡ g.finalized) × ((deepen name g).shallow ≡ g.shallow)
    × ((deepen name g).ordered ≡ (g.ordered && g.finalized)) × ((deepen name g).order ≡ cond g.finalized g.order [])
unfolding deepen
marks-deepened name g = (refl, refl, refl, refl)

module _ (name : List ℕ) (is_name : Name name) (g : Graph) (legal : Legal g) (fits : paths_fit (deepen name g) ≡ true) where
  local-root-deepened : (n : ℕ) → LocalRoot (deepen name g) n → LocalRoot g n
  local-root-deepened n r =
      let below : n < size g = rw (size-deepened name g) at r.1 in
      (r.0, below, sym (ap (λ (x : Node). x.arc) (node-deepened name g n below)) ∙ r.2)

  both-fit : (short_paths (deepen name g).nodes ≡ true) × (leb (path_bytes (deepen name g).nodes) most_path_bytes ≡ true)
  both-fit = (and-eq-true_iff (short_paths (deepen name g).nodes) (leb (path_bytes (deepen name g).nodes) most_path_bytes)).0 fits

  node-0-deepened : 0 < size g → RootRecord (node_at (deepen name g).nodes 0)
  node-0-deepened h =
      let root = legal.node-0 h in
      rw (node-deepened name g 0 h) record { arc = root.arc; inert = root.inert; no-parent = root.no-parent; no_origin = root.no_origin }

  legal-node-deepened : (n : ℕ) → n < size g → LegalNode (node_at (deepen name g).nodes n)
  legal-node-deepened n h =
      let x = legal.node n h in
      let path : List ℕ = (node_at g.nodes n).path in
      let same = node-deepened name g n h in
      let short = short-paths (deepen name g).nodes both-fit.0 n (rw (size-deepened name g) h) in
      rw same record {
        path = append-well-formed path name (well-formed-may-end path x.path) is_name (rw same at short);
        arc = x.arc;
        has-specs = x.has-specs;
        root-unculled = x.root-unculled;
      }

  deepened-legal : Legal (deepen name g)
  deepened-legal = record {
    lengths = rw (children-deepened name g, size-deepened name g) legal.lengths;
    tree = tree-deepened name g legal.tree;
    links = legal-deepened name g legal.links;
    node-0 = λ h. node-0-deepened (rw (size-deepened name g) at h);
    node = λ n h. legal-node-deepened n (rw (size-deepened name g) at h);
    local-root-under-0 = λ n r.
        let before = local-root-deepened n r in
        ap (λ (x : Node). x.parent) (node-deepened name g n before.1) ∙ legal.local-root-under-0 n before;
    one-local-root = λ a b r s. legal.one-local-root a b (local-root-deepened a r) (local-root-deepened b s);
    few-nodes = rw (size-deepened name g) legal.few-nodes;
    few-path-bytes = leb-true (path_bytes (deepen name g).nodes) most_path_bytes both-fit.1;
    not-shallow = λ e.
        (reached-deepened name is_name g legal.links (legal-reached g legal (sym (marks-deepened name g).1 ∙ e))).reached;
    final = λ e.
        let f : g.finalized ≡ true = sym (marks-deepened name g).0 ∙ e in
        let both = legal.final f in
        ((marks-deepened name g).2 ∙ (rw (both.0, f)), (marks-deepened name g).1 ∙ both.1);
    no-order = λ e. (marks-deepened name g).3 ∙ no-order g.finalized refl (sym (marks-deepened name g).2 ∙ e);
    in_order = λ e. in_order (still-ordered e);
    ordered-final = λ e some.
        (marks-deepened name g).0 ∙ legal.ordered-final (still-ordered e).0 (rw (size-deepened name g) at some)
        ∙ ap not (sym (marks-deepened name g).1);
  }
    where
      still-ordered : (deepen name g).ordered ≡ true → (g.ordered ≡ true) × (g.finalized ≡ true)
      still-ordered e = (and-eq-true_iff g.ordered g.finalized).0 (sym (marks-deepened name g).2 ∙ e)

      no-order : (b : Bool) → g.finalized ≡ b → (g.ordered && b) ≡ false → cond b g.order [] ≡ []
      no-order true f e = absurd (true≢false (rw (legal.final f).0 at e))
      no-order false f e = refl

      in_order : (g.ordered ≡ true) × (g.finalized ≡ true) → InOrder (deepen name g)
      in_order both =
          in-order-alike g (deepen name g) legal (size-deepened name g) (children-deepened name g) ((marks-deepened name g).3 ∙ (rw both.1))
          (deepen-looks-like name is_name g legal.links (legal-reached g legal (legal.final both.1).1)) (legal.in_order both.0)

-- question 5: a child's path ends in a name
pub deepens-by-name : (child : List ℕ) (g : Graph) → Accepted (deepen_questions child g) → Name (last_name child)
deepens-by-name child g a =
    let both = (and-eq-true_iff (well_formed child) (ends_in_name child)).0 (a 5) in
    last-name-is-name child (well-formed-may-end child both.0) both.1

-- what deepening leaves where its questions pass, in the graph's own arena or in a second
deepening-legal : (child : List ℕ) (g : Graph) → Legal g → Accepted (deepen_questions child g) → Legal (append_child_name_to_all_sites child g)
deepening-legal child g legal a = deepened-legal (last_name child) (deepens-by-name child g a) g legal (a 7)

pub deepening-keeps-legal : (child : List ℕ) (g : Graph) → Legal g → Legal (append_child_name child g).graph
unfolding append_child_name
deepening-keeps-legal child g legal =
    decided-keeps (deepen_questions child g) g 0 (append_child_name_to_all_sites child g) Legal refl (deepening-legal child g legal) legal

pub seeding-legal : (child : List ℕ) (from into : Graph) → Legal from → (seed_child child from into).refused ≡ 0
    → Legal (seed_child child from into).graph
unfolding seed_child
seeding-legal child from into legal =
    decided-leaves (deepen_questions child from) into 0 (append_child_name_to_all_sites child from) Legal refl (deepening-legal child from legal)
