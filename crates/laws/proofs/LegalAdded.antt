-- A node more leaves a graph legal where questions 4 to 7 pass (`Addable`,
-- `node-more-keeps-legal`): so do starting and adding, and so does reading, record by record from
-- the empty graph, whatever graph was there before (`reading-legal-or-refused`).
-- Assumes nothing.
use Rattle.std.specs.Prelude.{None, Option, Some}
use mathlib.Core.Path.{◌≡◌, refl, sym, ◌∙◌}
use mathlib.Core.Logic.{◌⊎◌, inl, inr}
use mathlib.Core.Bool.{Bool, true, false, not, ◌||◌, ◌&&◌, true≢false, false≢true, and-eq-true_iff}
use mathlib.Core.List.{List, [], ◌∷◌, ◌++◌}
use Prim.Native.Nat.{ℕ, zero, suc, ◌+◌, ◌≤◌, ◌<◌}
use native.Mathlib.Omega.{arith}
use lib.Dec.{eqb, ltb, leb}
use lib.ListN.{length}
use borrow.Author.Tests.{eqb-true, eqb-false, eq-eqb, ne_eqb, ltb-true, ltb-false, lt-ltb, leb-true, not-true}
use Rattle.model.specs.Path.{well_formed, prim_count}
use Rattle.model.specs.Node.{invalid, root_arc, Node, is_inert, is_culled}
use Rattle.model.specs.Graph.{Graph, empty_graph, size, node_at, with_node, is_shallow, is_local_root, has_local_root}
use Rattle.model.specs.Strength.{view}
use Rattle.model.specs.Refusals.{Question, ask, most_nodes, most_path_bytes, path_bytes, has_room, arc_allowed, added_kind, root_record, record_questions, refusal}
use Rattle.model.specs.Snapshot.{read_snapshot}
use Rattle.model.specs.Calls.{Outcome, has_node_zero, NodeDesc, root_node, init_root, given_or, added_node, given_below, add_child, read_if, read_on, read_or12, read_into}
use Rattle.laws.proofs.PathGrammar.{well-formed-length}
use Rattle.laws.proofs.Views.{LegalView}
use Rattle.laws.proofs.ListLaws.{any-below-fails}
use Rattle.laws.proofs.Trees.{TreeOf, size-with-node, node-old, node-new, lengths-with-node, tree-with-node, tree-with-root}
use Rattle.laws.proofs.AddLaws.{legal-with-root, legal-with-node}
use Rattle.laws.proofs.LegalGraphs.{RootRecord, LegalNode, LocalRoot, DepthsReached, Legal, empty-legal}
use Rattle.laws.proofs.AcceptedQuestions.{Accepted, none-refused-accepted, decided-keeps}

-- a node that a graph may get: node 0 or one with lower links, arc Root only where document 01
-- allows it, and room for it
pub record Addable (g : Graph) (x : Node) : Type 0 where
  pub first : size g ≡ 0 → RootRecord x
  pub parent-lower : 0 < size g → x.parent < size g
  pub origin-lower : 0 < size g → x.origin < size g
  pub record-legal : LegalNode x
  pub local-root : 0 < size g → x.arc ≡ root_arc → (x.parent ≡ 0) × (has_local_root g.nodes ≡ false)
  pub node-fits : size g < most_nodes
  pub path-fits : path_bytes g.nodes + length x.path ≤ most_path_bytes

pub path-bytes-append : (xs ys : List Node) → path_bytes (xs ++ ys) ≡ path_bytes xs + path_bytes ys
path-bytes-append [] ys = omega arith
path-bytes-append (x ∷ xs) ys = omega (arith, path-bytes-append xs ys)

or-false : (a b : Bool) → (a || b) ≡ false → (a ≡ false) × (b ≡ false)
or-false true b e = absurd (true≢false e)
or-false false b e = (refl, e)

-- ---- A node more

module _ (g : Graph) (x : Node) where
  -- what holds of the old nodes and of the new one holds of all
  each-added : (P : ℕ → Node → Type 0) → ((n : ℕ) → n < size g → P n (node_at g.nodes n)) → P (size g) x
      → (n : ℕ) → n < size (with_node g x) → P n (node_at (with_node g x).nodes n)
  each-added P old new n h = go (eqb n (size g)) refl
    where
      go : (b : Bool) → eqb n (size g) ≡ b → P n (node_at (with_node g x).nodes n)
      go true e = rw (eqb-true n (size g) e, node-new g x) new
      go false e =
          let below : n < size g = omega (arith, size-with-node g x, eqb-false n (size g) e) in
          rw (node-old g x n below) (old n below)

  path-bytes-added : path_bytes (with_node g x).nodes ≡ path_bytes g.nodes + length x.path
  unfolding with_node
  path-bytes-added = path-bytes-append g.nodes (x ∷ []) ∙ omega arith

  shallow-added : (with_node g x).shallow ≡ (g.shallow || is_shallow g.nodes (size g) x)
  unfolding with_node
  shallow-added = refl

  unordered-added : ((with_node g x).ordered ≡ false) × ((with_node g x).finalized ≡ false) × ((with_node g x).order ≡ [])
  unfolding with_node
  unordered-added = (refl, refl, refl)

module _ (g : Graph) (x : Node) (legal : Legal g) (new : Addable g x) where
  tree-added : (b : Bool) → eqb (size g) 0 ≡ b → TreeOf (with_node g x) × LegalView (size (with_node g x)) (view (with_node g x).nodes)
  tree-added true e =
      let no_Node = eqb-true (size g) 0 e in
      (tree-with-root g x legal.lengths no_Node, legal-with-root g x no_Node)
  tree-added false e =
      let some-node : 0 < size g = omega (arith, eqb-false (size g) 0 e) in (
        tree-with-node g x legal.lengths (new.parent-lower some-node) legal.tree,
        legal-with-node g x legal.links (new.parent-lower some-node) (new.origin-lower some-node),
      )

  node-0-added : RootRecord (node_at (with_node g x).nodes 0)
  node-0-added =
      each-added g x (λ n y. n ≡ 0 → RootRecord y) (λ n h e. rw e (legal.node-0 (omega arith))) new.first 0
      (omega (arith, size-with-node g x)) refl

  -- where the new node is a local root, there was none
  no-other-local-root : (n : ℕ) → LocalRoot g n → x.arc ≡ root_arc → ⊥
  unfolding is_local_root
  no-other-local-root n r e = true≢false (sym here ∙ there)
    where
      here : is_local_root g.nodes n ≡ true
      here = rw (lt-ltb 0 n r.0, eq-eqb (node_at g.nodes n).arc root_arc r.2)

      there : is_local_root g.nodes n ≡ false
      there = (any-below-fails (is_local_root g.nodes) (size g)).0 (new.local-root (omega (arith, r.1)) e).1 n r.1

  one-local-root-added : (a b : ℕ) → LocalRoot (with_node g x) a → LocalRoot (with_node g x) b → a ≡ b
  one-local-root-added a b r s =
      each-added g x (λ a y. 0 < a → y.arc ≡ root_arc → a ≡ b)
      (λ a l p e. each-added g x (λ b z. 0 < b → z.arc ≡ root_arc → a ≡ b)
      (λ b m q f. legal.one-local-root a b (p, l, e) (q, m, f)) (λ q f. absurd (no-other-local-root a (p, l, e) f)) b s.1 s.0 s.2)
      (λ p e. each-added g x (λ b z. 0 < b → z.arc ≡ root_arc → size g ≡ b)
      (λ b m q f. absurd (no-other-local-root b (q, m, f) e)) (λ q f. refl) b s.1 s.0 s.2)
      a r.1 r.0 r.2

  depths-reached-added : (with_node g x).shallow ≡ false → DepthsReached (with_node g x)
  depths-reached-added e c h l =
      each-added g x (λ c y. 0 < c → y.depth ≤ prim_count (node_at (with_node g x).nodes y.parent).path) old here c l h
    where
      marks : (g.shallow ≡ false) × (is_shallow g.nodes (size g) x ≡ false)
      marks = or-false g.shallow (is_shallow g.nodes (size g) x) (sym (shallow-added g x) ∙ e)

      old : (c : ℕ) → c < size g → 0 < c → (node_at g.nodes c).depth ≤ prim_count (node_at (with_node g x).nodes (node_at g.nodes c).parent).path
      old c l h =
          rw (node-old g x (node_at g.nodes c).parent (omega (arith, legal.links.parent-lower c h l))) (legal.not-shallow marks.0 c h l)

      here : 0 < size g → x.depth ≤ prim_count (node_at (with_node g x).nodes x.parent).path
      here h = rw (node-old g x x.parent (new.parent-lower h)) (ltb-false _ x.depth (rw (lt-ltb 0 (size g) h) at marks.1))

  pub node-more-keeps-legal : Legal (with_node g x)
  node-more-keeps-legal = record {
    lengths = lengths-with-node g x legal.lengths;
    tree = (tree-added (eqb (size g) 0) refl).0;
    links = (tree-added (eqb (size g) 0) refl).1;
    node-0 = λ h. node-0-added;
    node = each-added g x (λ n y. LegalNode y) legal.node new.record-legal;
    local-root-under-0 = λ n r. under-0 n r.1 r.0 r.2;
    one-local-root = one-local-root-added;
    few-nodes = omega (arith, size-with-node g x, new.node-fits);
    few-path-bytes = omega (arith, path-bytes-added g x, new.path-fits);
    not-shallow = depths-reached-added;
    final = λ e. absurd (false≢true (sym (unordered-added g x).1 ∙ e));
    no-order = λ e. (unordered-added g x).2;
    in_order = λ e. absurd (false≢true (sym (unordered-added g x).0 ∙ e));
    ordered-final = λ e. absurd (false≢true (sym (unordered-added g x).0 ∙ e));
  }
    where
      under-0 : (n : ℕ) → n < size (with_node g x) → 0 < n → (node_at (with_node g x).nodes n).arc ≡ root_arc → (node_at (with_node g x).nodes n).parent ≡ 0
      under-0 =
          each-added g x (λ n y. 0 < n → y.arc ≡ root_arc → y.parent ≡ 0) (λ n l h e. legal.local-root-under-0 n (h, l, e))
          (λ h e. (new.local-root h e).0)

-- ---- Questions 6 and 7

three-parts : (a b c : Bool) → (a && (b && c)) ≡ true → (a ≡ true) × (b ≡ true) × (c ≡ true)
three-parts a b c e =
    let outer = (and-eq-true_iff a (b && c)).0 e in
    let inner = (and-eq-true_iff b c).0 outer.1 in
    (outer.0, inner.0, inner.1)

-- arc Root is allowed to node 0, and to a child of node 0 where there is none such
arc-parts : (small root first under : Bool) → (small && (not root || (first || under))) ≡ true
    → (small ≡ true) × (first ≡ false → root ≡ true → under ≡ true)
arc-parts false root first under e = absurd (false≢true e)
arc-parts true true true under e = (refl, λ f r. absurd (true≢false f))
arc-parts true true false under e = (refl, λ f r. e)
arc-parts true false first under e = (refl, λ f r. absurd (false≢true r))

arc-allowed : (g : Graph) (x : Node) → arc_allowed g x ≡ true
    → (x.arc ≤ 6) × (0 < size g → x.arc ≡ root_arc → (x.parent ≡ 0) × (has_local_root g.nodes ≡ false))
arc-allowed g x e = (leb-true x.arc 6 parts.0, root)
  where
    parts : (leb x.arc 6 ≡ true)
        × (eqb (size g) 0 ≡ false → eqb x.arc root_arc ≡ true → (eqb x.parent 0 && not (has_local_root g.nodes)) ≡ true)
    parts = arc-parts (leb x.arc 6) (eqb x.arc root_arc) (eqb (size g) 0) (eqb x.parent 0 && not (has_local_root g.nodes)) e

    root : 0 < size g → x.arc ≡ root_arc → (x.parent ≡ 0) × (has_local_root g.nodes ≡ false)
    root h r =
        let both = (and-eq-true_iff (eqb x.parent 0) _).0 (parts.1 (ne_eqb (size g) 0 (λ z. omega arith)) (eq-eqb x.arc root_arc r)) in
        (eqb-true x.parent 0 both.0, not-true _ both.1)

has_room_lem : (g : Graph) (x : Node) → has_room g x ≡ true → (size g < most_nodes) × (path_bytes g.nodes + length x.path ≤ most_path_bytes)
has_room_lem g x e = let both = (and-eq-true_iff (ltb (size g) most_nodes) _).0 e in (ltb-true _ _ both.0, leb-true _ _ both.1)

-- ---- Starting: node 0

no-path-bytes : (ns : List Node) → length ns ≡ 0 → path_bytes ns ≡ 0
no-path-bytes [] e = refl
no-path-bytes (x ∷ ns) e = absurd (omega arith)

pub starting-keeps-legal : (stack layer : ℕ) (path : List ℕ) (g : Graph) → Legal g → Legal (init_root stack layer path g).graph
unfolding init_root
starting-keeps-legal stack layer path g legal =
    decided-keeps (ask 3 (eqb (size g) 0) ∷ ask 5 (well_formed path) ∷ []) g 0 (with_node g (root_node stack layer path)) Legal refl
    (λ a. node-more-keeps-legal g (root_node stack layer path) legal (addable (eqb-true (size g) 0 (a 3)) (a 5))) legal
  where
    addable : size g ≡ 0 → well_formed path ≡ true → Addable g (root_node stack layer path)
    addable no_Node well = record {
      first = λ e. record { arc = refl; inert = refl; no-parent = refl; no_origin = refl };
      parent-lower = λ h. absurd (omega arith);
      origin-lower = λ h. absurd (omega arith);
      record-legal = record { path = well; arc = omega arith; has-specs = omega arith; root-unculled = λ e. refl };
      local-root = λ h. absurd (omega arith);
      node-fits = omega arith;
      path-fits = omega (arith, no-path-bytes g.nodes no_Node, well-formed-length path well);
    }

-- ---- Adding

-- a link that is missing or below the count, and what stands for it, is below the count
link-below : (count : ℕ) (link : Option ℕ) (default : ℕ) → given_below count link ≡ true → default < count → given_or link default < count
link-below count None default e h = h
link-below count (Some n) default e h = ltb-true n count e

abbrev add_questions : NodeDesc → Graph → List Question
add_questions d g =
    has_node_zero g ∷ ask 4 (given_below (size g) d.parent && given_below (size g) d.origin) ∷ ask 5 (well_formed d.fields.path) ∷ ask 6 (added_kind g (added_node g d)) ∷ ask 7 (has_room g (added_node g d)) ∷ []

pub adding-keeps-legal : (d : NodeDesc) (g : Graph) → Legal g → Legal (add_child d g).graph
unfolding add_child
adding-keeps-legal d g legal =
    decided-keeps (add_questions d g) g (size g) (with_node g (added_node g d)) Legal refl
    (λ a. node-more-keeps-legal g (added_node g d) legal (addable (ltb-true 0 (size g) (a 3)) (a 4) (a 5) (a 6) (a 7))) legal
  where
    x : Node
    x = added_node g d

    addable : 0 < size g → (given_below (size g) d.parent && given_below (size g) d.origin) ≡ true
        → well_formed d.fields.path ≡ true → added_kind g x ≡ true → has_room g x ≡ true → Addable g x
    addable some-node links well kind room =
        let below = (and-eq-true_iff (given_below (size g) d.parent) _).0 links in
        let parent : x.parent < size g = link-below (size g) d.parent 0 below.0 some-node in
        let parts = three-parts (arc_allowed g x) (not (is_culled x)) (leb x.has_specs 1) kind in
        record {
          first = λ e. absurd (omega arith);
          parent-lower = λ h. parent;
          origin-lower = λ h. link-below (size g) d.origin x.parent below.1 parent;
          record-legal = record {
            path = well;
            arc = (arc-allowed g x parts.0).0;
            has-specs = leb-true x.has_specs 1 parts.2;
            root-unculled = λ e. not-true (is_culled x) parts.1;
          };
          local-root = (arc-allowed g x parts.0).1;
          node-fits = (has_room_lem g x room).0;
          path-fits = (has_room_lem g x room).1;
        }

-- ---- Reading

root-record : (x : Node) → root_record x ≡ true → RootRecord x
root-record x e =
    let parts = three-parts (eqb x.arc root_arc) (is_inert x) (eqb x.parent invalid && eqb x.origin invalid) e in
    let links = (and-eq-true_iff (eqb x.parent invalid) (eqb x.origin invalid)).0 parts.2 in
    record {
      arc = eqb-true x.arc root_arc parts.0;
      inert = parts.1;
      no-parent = eqb-true x.parent invalid links.0;
      no_origin = eqb-true x.origin invalid links.1;
    }

-- a record that passes its questions
pub read-addable : (g : Graph) (x : Node) → Accepted (record_questions g x) → Addable g x
read-addable g x a = record {
  first = first;
  parent-lower = λ h. ltb-true x.parent (size g) (lower h).0;
  origin-lower = λ h. ltb-true x.origin (size g) (lower h).1;
  record-legal = record {
    path = a 5;
    arc = (arc-allowed g x parts.0).0;
    has-specs = leb-true x.has_specs 1 parts.2;
    root-unculled = λ e. rw (eq-eqb x.arc root_arc e) at (not-true (eqb x.arc root_arc && is_culled x) parts.1);
  };
  local-root = (arc-allowed g x parts.0).1;
  node-fits = (has_room_lem g x (a 7)).0;
  path-fits = (has_room_lem g x (a 7)).1;
}
  where
    parts : (arc_allowed g x ≡ true) × (not (eqb x.arc root_arc && is_culled x) ≡ true) × (leb x.has_specs 1 ≡ true)
    parts = three-parts (arc_allowed g x) (not (eqb x.arc root_arc && is_culled x)) (leb x.has_specs 1) (a 6)

    lower : 0 < size g → (ltb x.parent (size g) ≡ true) × (ltb x.origin (size g) ≡ true)
    lower h = (and-eq-true_iff (ltb x.parent (size g)) _).0 (rw (ne_eqb (size g) 0 (λ z. omega arith)) at (a 4))

    first : size g ≡ 0 → RootRecord x
    first e = root-record x (rw e at (a 4))

-- what an accepted read leaves is legal; refused, it leaves what was there
abbrev pub LegalOrRefused : Graph → Outcome → Type 0
LegalOrRefused old o = Legal o.graph ⊎ ((0 < o.refused) × (o.graph ≡ old))

read-on-legal : (old g : Graph) (xs : List Node) → Legal g → LegalOrRefused old (read_on old g xs)
read-on-legal old g [] legal = inl legal
read-on-legal old g (x ∷ xs) legal = go (refusal (record_questions g x)) refl (read-on-legal old (with_node g x) xs)
  where
    go : (r : ℕ) → refusal (record_questions g x) ≡ r → (Legal (with_node g x) → LegalOrRefused old (read_on old (with_node g x) xs))
        → LegalOrRefused old (read_if r (read_on old (with_node g x) xs) old)
    go zero e rest = rest (node-more-keeps-legal g x legal (read-addable g x (none-refused-accepted (record_questions g x) refl e)))
    go (suc r) e rest = inr (omega arith, refl)

pub reading-legal-or-refused : (bytes : List ℕ) (old : Graph) → LegalOrRefused old (read_into bytes old)
unfolding read_into
reading-legal-or-refused bytes old = go (read_snapshot bytes)
  where
    go : (found : Option (List Node)) → LegalOrRefused old (read_or12 found old)
    go None = inr (omega arith, refl)
    go (Some xs) = read-on-legal old empty_graph xs empty-legal
