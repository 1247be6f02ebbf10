-- An arena that passes question 2 holds a graph that is encodable: `held-encodable`. With
-- `holds-encoded` and `encode-decode`: question 2 passes on the arenas that `encode` makes of
-- encodable graphs, and on no others. Assumes nothing.
use mathlib.Core.Path.{◌≡◌, refl, sym, ap, ◌∙◌}
use mathlib.Core.Bool.{Bool, true, false, false≢true}
use mathlib.Core.List.{List, []}
use Prim.Native.Nat.{ℕ, zero, suc, ◌+◌, ◌≤◌, ◌<◌}
use native.Mathlib.Omega.{arith}
use lib.Dec.{ltb}
use lib.ListN.{length, get_or-eq_default}
use borrow.Author.Tests.{eqb-true, eq-eqb, ne_eqb, ltb-true, ltb-false, lt-ltb}
use Rattle.model.specs.Lists.{count}
use Rattle.model.specs.Node.{invalid, Node}
use Rattle.model.specs.Graph.{size, node_at, children_of, is_shallow}
use Rattle.model.specs.Strength.{view}
use Rattle.model.specs.Arena.{arena_bytes, count_in, ordered_in, finalized_in, shallow_in, node_in, tabulate, nodes_in, children_in, order_in, order_entry_in, decode, holds_graph}
use Rattle.laws.proofs.BigEndianLaws.{Bytes}
use Rattle.laws.proofs.SnapshotLaws.{FieldsFit, NodesFit}
use Rattle.laws.proofs.SnapshotReadLaws.{built}
use Rattle.laws.proofs.ListLaws.{all-at}
use Rattle.laws.proofs.LengthLaws.{EachOnce, once-nothing-else}
use Rattle.laws.proofs.Trees.{Child, TreeOf}
use Rattle.laws.proofs.LegalGraphs.{Legal, DepthsReached}
use Rattle.arena.proofs.Encodable.{unordered, Encodable}
use Rattle.arena.proofs.TabulateLaws.{tabulate-length}
use Rattle.arena.proofs.HeldArenas.{Held, held, held-chain}
use Rattle.arena.proofs.ArenaBack.{size-decode, node-decode, lists-decode, children-decode, fresh-nodes, fresh-legal, parent-lower, root-parent, node-fits}

tabulate-fits : (f : ℕ → Node) (at n : ℕ) → ((i : ℕ) → at ≤ i → i < at + n → FieldsFit (f i)) → NodesFit (tabulate f at n)
tabulate-fits f at zero h = tt
tabulate-fits f at (suc n) h = (h at (omega arith) (omega arith), tabulate-fits f (suc at) n (λ i l u. h i (omega arith) (omega arith)))

module _ (bs : List ℕ) (held : Held bs) where
  parent-decode : (n : ℕ) → n < count_in bs → (node_at (decode bs).nodes n).parent ≡ (node_in bs n).parent
  parent-decode n h = ap (λ (x : Node). x.parent) (node-decode bs held n h)

  -- ---- The tree

  pub tree-held : TreeOf (decode bs)
  tree-held = record { lower = lower; once = once; only = λ v c m. only v c m (ltb v (count_in bs)) refl }
    where
      lower : (c : ℕ) → 0 < c → c < size (decode bs) → (view (decode bs).nodes).parent c < c
      lower c l h =
          let here : c < count_in bs = omega (arith, size-decode bs held) in
          omega (arith, parent-decode c here, parent-lower bs held c l here)

      once : (c : ℕ) → 0 < c → c < size (decode bs) → count c (children_of (decode bs) ((view (decode bs).nodes).parent c)) ≡ 1
      once c l h =
          let here : c < count_in bs = omega (arith, size-decode bs held) in
          let low = lower c l h in
          ap (count c) (children-decode bs held (node_at (decode bs).nodes c).parent (omega arith))
          ∙ ap (λ (p : ℕ). count c (children_in bs p)) (parent-decode c here) ∙ (held.node c here).once l

      only : (v c : ℕ) → 0 < count c (children_of (decode bs) v) → (t : Bool) → ltb v (count_in bs) ≡ t
          → Child (size (decode bs)) (view (decode bs).nodes).parent v c
      only v c m false e =
          let out = ltb-false v (count_in bs) e in
          let childless : children_of (decode bs) v ≡ [] =
          get_or-eq_default (decode bs).children [] {n = v} (omega (arith, lists-decode bs held)) in
          absurd (omega (arith, ap (count c) childless))
      only v c m true e =
          let here = ltb-true v (count_in bs) e in
          let child = all-at (λ c. (c < count_in bs) × ((node_in bs c).parent ≡ v)) (children_in bs v) c (held-chain bs held v here).children
          (rw (children-decode bs held v here) at m) in
          let parent : (node_at (decode bs).nodes c).parent ≡ v = parent-decode c child.0 ∙ child.1 in
          (not-0 c child.0 parent here c refl, omega (arith, child.0, size-decode bs held), parent)
        where
          -- node 0's parent is no node
          not-0 : (c : ℕ) → c < count_in bs → (node_at (decode bs).nodes c).parent ≡ v → v < count_in bs → (k : ℕ) → c ≡ k → 0 < c
          not-0 c h parent here zero z =
              let root : (node_at (decode bs).nodes c).parent ≡ invalid =
              ap (λ (k : ℕ). (node_at (decode bs).nodes k).parent) z ∙ root-parent bs held (omega arith) in
              absurd (omega (arith, held.few))
          not-0 c h parent here (suc k) z = omega arith

  -- ---- The rest of what is legal

  depths-held : (decode bs).shallow ≡ false → DepthsReached (unordered (decode bs))
  unfolding decode
  depths-held e c l h =
      let here : c < count_in bs = omega (arith, size-decode bs held) in
      let reached : is_shallow (nodes_in bs) c (node_in bs c) ≡ false = (held.node c here).not-shallow e in
      rw (node-decode bs held c here) (ltb-false _ (node_in bs c).depth (rw (lt-ltb 0 c l) at reached))

  unordered-legal : Legal (unordered (decode bs))
  unordered-legal = record {
    lengths = lists-decode bs held ∙ sym (size-decode bs held);
    tree = tree-held;
    links = rw same at legal.links;
    node-0 = rw same at legal.node-0;
    node = rw same at legal.node;
    local-root-under-0 = rw same at legal.local-root-under-0;
    one-local-root = rw same at legal.one-local-root;
    few-nodes = rw same at legal.few-nodes;
    few-path-bytes = rw same at legal.few-path-bytes;
    not-shallow = depths-held;
    final = λ e. absurd (false≢true e);
    no-order = λ e. refl;
    in_order = λ e. absurd (false≢true e);
    ordered-final = λ e. absurd (false≢true e);
  }
    where
      legal : Legal (built (nodes_in bs))
      legal = fresh-legal bs held

      same : (built (nodes_in bs)).nodes ≡ (decode bs).nodes
      same = fresh-nodes bs held

  -- ---- The marks and the order

  pub order-held : (decode bs).ordered ≡ true → EachOnce (size (decode bs)) (decode bs).order
  unfolding decode
  order-held e =
      let listed : length (order_in bs) ≡ count_in bs = rw e (tabulate-length (order_entry_in bs) 0 (count_in bs)) in
      let once : (i : ℕ) → i < size (decode bs) → count i (order_in bs) ≡ 1 =
      λ i h. (held.node i (omega (arith, size-decode bs held))).in_order (eqb-true (ordered_in bs) 1 e) in
      record { once = once; nothing-else = once-nothing-else (size (decode bs)) (order_in bs) (listed ∙ sym (size-decode bs held)) once }

pub held-encodable : (bs : List ℕ) → Bytes bs → length bs ≡ arena_bytes → holds_graph bs ≡ true → Encodable (decode bs)
unfolding decode
held-encodable bs bytes whole e =
    let facts = held bs e in
    record {
      legal = unordered-legal bs facts;
      fit = tabulate-fits (node_in bs) 0 (count_in bs) (λ i l h. node-fits bs bytes whole facts i (omega arith));
      final = λ f. let marks = facts.final (eqb-true (finalized_in bs) 1 f) in
          (eq-eqb (ordered_in bs) 1 marks.0, ne_eqb (shallow_in bs) 1 (λ q. omega (arith, marks.1)));
      no-order = λ o. rw o;
      each-once = order-held bs facts;
    }
