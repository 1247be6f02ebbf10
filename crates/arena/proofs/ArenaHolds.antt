-- The bytes of a graph hold a graph: `holds-encoded`, that question 2 passes after `encode`.
-- Assumes nothing.
use mathlib.Core.Path.{◌≡◌, refl, sym, ap, ◌∙◌}
use mathlib.Core.Bool.{Bool, true, false, not, ◌||◌, ◌&&◌, cond, or-true}
use mathlib.Core.List.{List, [], ◌∷◌}
use Prim.Native.Nat.{ℕ, ◌<◌}
use native.Mathlib.Omega.{arith}
use lib.Dec.{eqb, ltb, leb}
use lib.ListN.{length, get_or-eq_default}
use borrow.Author.Tests.{eqb-false, eq-eqb, ltb-true, le-ltb, le-leb}
use Rattle.model.specs.Lists.{bit, count}
use Rattle.model.specs.Path.{prim_count}
use Rattle.model.specs.Node.{invalid, Node}
use Rattle.model.specs.Graph.{Graph, empty_graph, size, node_at, children_of, is_shallow, with_node}
use Rattle.model.specs.Arena.{arena_bytes, count_in, ordered_in, local_root_in, first_child_in, last_child_in, next_sibling_in, prim_count_in, record_length_in, node_in, nodes_in, children_in, last_of, after_in, local_root_of, encode, records_accepted, record_fits, chain_ends, chain_valid, in_chain_once, in_order_once, shallow_marked, state_valid, node_valid, holds_graph}
use Rattle.laws.proofs.ListLaws.{all-below}
use Rattle.arena.proofs.ChainLaws.{chain-ends-linked}
use Rattle.laws.proofs.SnapshotReadLaws.{GrowsFrom}
use Rattle.laws.proofs.LegalGrows.{legal-grows}
use Rattle.arena.proofs.Encodable.{unordered, Encodable, fit_at}
use Rattle.arena.proofs.ArenaFields.{count-encode, ordered-encode, finalized-encode, shallow-encode, local-root-encode, first-child-encode, last-child-encode, next-sibling-encode, prim-count-encode, record-length-encode, node-encode}
use Rattle.arena.proofs.ArenaLaws.{nodes-encode, children-few, children-read, children-linked, children-encode, order-encode}

grown-accepted : (g : Graph) (xs : List Node) → GrowsFrom g xs → records_accepted g xs ≡ true
grown-accepted g [] h = refl
grown-accepted g (x ∷ xs) h = rw h.0 (grown-accepted (with_node g x) xs h.1)

bit-small : (t : Bool) → leb (bit t) 1 ≡ true
bit-small true = refl
bit-small false = refl

module _ (g : Graph) (bs : List ℕ) (ok : Encodable g) (whole : length bs ≡ arena_bytes) where
  abbrev arena : List ℕ
  arena = encode g bs

  counted : count_in arena ≡ size g
  counted = count-encode g bs ok whole

  -- ---- The marks

  state-valid : state_valid arena ≡ true
  state-valid =
      rw (ordered-encode g bs ok whole, finalized-encode g bs ok whole, shallow-encode g bs ok whole)
      (rw (bit-small g.ordered, bit-small g.finalized, bit-small g.shallow) (final g.finalized refl))
    where
      final : (t : Bool) → g.finalized ≡ t → (eqb (bit t) 0 || (eqb (bit g.ordered) 1 && eqb (bit g.shallow) 0)) ≡ true
      final true e = let marks = ok.final e in rw (marks.0, marks.1)
      final false e = refl

  -- ---- A node

  module _ (n : ℕ) (here : n < size g) where
    abbrev node : Node
    node = node_at g.nodes n

    read : node_in arena n ≡ node
    read = node-encode g bs ok whole n here

    record-fits : record_fits arena n ≡ true
    record-fits =
        let long = record-length-encode g bs ok whole n here in
        let fits = fit_at g.nodes ok.fit n here in
        rw (le-leb 28 (record_length_in arena n) (omega arith)) (le-leb (record_length_in arena n) 282 (omega arith))

    prim-count-right : eqb (prim_count_in arena n) (prim_count (node_in arena n).path) ≡ true
    prim-count-right =
        eq-eqb (prim_count_in arena n) (prim_count (node_in arena n).path)
        (prim-count-encode g bs ok whole n here ∙ ap (λ (x : Node). prim_count x.path) (sym read))

    chain-right : chain_valid arena n ≡ true
    chain-right =
        let ends : chain_ends arena n (count_in arena) (first_child_in arena n) ≡ true =
        ap (chain_ends arena n (count_in arena)) (first-child-encode g bs ok whole n here)
        ∙ chain-ends-linked arena n (count_in arena) (children_of g n) (omega (arith, counted, children-few g bs ok whole n))
        (children-read g bs ok whole n) (children-linked g bs ok whole n) in
        rw ends
        (eq-eqb (last_child_in arena n) (last_of (children_in arena n))
        (last-child-encode g bs ok whole n here ∙ ap last_of (sym (children-encode g bs ok whole n here))))

    in-chain-once : in_chain_once arena n ≡ true
    in-chain-once = go (eqb n 0) refl
      where
        -- node 0's parent is no node
        childless : 0 < size g → children_of g (node_at g.nodes 0).parent ≡ []
        childless h =
            rw (ok.legal.node-0 h).no-parent
            (get_or-eq_default g.children [] {n = invalid} (omega (arith, ok.legal.lengths, ok.legal.few-nodes)))

        go : (t : Bool) → eqb n 0 ≡ t
            → cond t (eqb (next_sibling_in arena 0) invalid) (eqb (count n (children_in arena (node_in arena n).parent)) 1) ≡ true
        go true e =
            let some-node : 0 < size g = omega arith in
            eq-eqb (next_sibling_in arena 0) invalid (next-sibling-encode g bs ok whole 0 some-node ∙ ap (after_in 0) (childless some-node))
        go false e =
            let higher : 0 < n = omega (arith, eqb-false n 0 e) in
            let lower = ok.legal.tree.lower n higher here in
            eq-eqb (count n (children_in arena (node_in arena n).parent)) 1
            (ap (λ (x : Node). count n (children_in arena x.parent)) read
            ∙ ap (count n) (children-encode g bs ok whole node.parent (omega arith)) ∙ ok.legal.tree.once n higher here)

    shallow-marked : shallow_marked arena n ≡ true
    shallow-marked =
        rw (nodes-encode g bs ok whole, read, shallow-encode g bs ok whole) (go g.shallow refl)
      where
        deep : g.shallow ≡ false → (t : Bool) → ltb 0 n ≡ t → (t && ltb (prim_count (node_at g.nodes node.parent).path) node.depth) ≡ false
        deep e true q = le-ltb (prim_count (node_at g.nodes node.parent).path) node.depth (ok.legal.not-shallow e n (ltb-true 0 n q) here)
        deep e false q = refl

        go : (t : Bool) → g.shallow ≡ t → (not (is_shallow g.nodes n node) || eqb (bit t) 1) ≡ true
        go true e = or-true (not (is_shallow g.nodes n node))
        go false e = rw (deep e (ltb 0 n) refl)

    in-order-once : (eqb (ordered_in arena) 0 || in_order_once arena n) ≡ true
    in-order-once = rw (order-encode g bs ok whole, ordered-encode g bs ok whole) (go g.ordered refl)
      where
        go : (t : Bool) → g.ordered ≡ t → (eqb (bit t) 0 || eqb (count n g.order) 1) ≡ true
        go true e = eq-eqb (count n g.order) 1 ((ok.each-once e).once n here)
        go false e = refl

    node-right : node_valid arena n ≡ true
    node-right = rw (record-fits, prim-count-right, chain-right, in-chain-once, shallow-marked) in-order-once

  -- ---- Question 2

  local-root-valid : (eqb (count_in arena) 0 || eqb (local_root_in arena) (local_root_of (nodes_in arena))) ≡ true
  local-root-valid = rw (nodes-encode g bs ok whole, counted) (go (eqb (size g) 0) refl)
    where
      go : (t : Bool) → eqb (size g) 0 ≡ t → (t || eqb (local_root_in arena) (local_root_of g.nodes)) ≡ true
      go true e = refl
      go false e =
          eq-eqb (local_root_in arena) (local_root_of g.nodes) (local-root-encode g bs ok whole (omega (arith, eqb-false (size g) 0 e)))

  pub holds-encoded : holds_graph (encode g bs) ≡ true
  unfolding holds_graph
  holds-encoded =
      rw (
        le-leb (count_in arena) 1024 (omega (arith, counted, ok.legal.few-nodes)),
        state-valid,
        (all-below (node_valid arena) (count_in arena)).1 (λ n h. node-right n (omega (arith, counted))),
        ap (records_accepted empty_graph) (nodes-encode g bs ok whole) ∙ grown-accepted empty_graph g.nodes (legal-grows (unordered g) ok.legal),
      ) local-root-valid
