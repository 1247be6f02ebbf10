-- What question 2 says of an arena that passes it, part by part: `Held`, and of each node
-- `HeldNode`; and that each child list is one by its links (`held-chain`). Assumes nothing.
use mathlib.Core.Path.{◌≡◌, refl, sym, ◌∙◌}
use mathlib.Core.Bool.{Bool, true, false, not, ◌||◌, ◌&&◌, and-eq-true_iff, false≢true}
use mathlib.Core.List.{List, [], ◌∷◌}
use Prim.Native.Nat.{ℕ, ◌≤◌, ◌<◌}
use native.Mathlib.Omega.{arith}
use lib.Dec.{eqb}
use borrow.Author.Tests.{eqb-true, eq-eqb, ne_eqb, leb-true}
use Rattle.model.specs.Lists.{count}
use Rattle.model.specs.Path.{prim_count}
use Rattle.model.specs.Node.{invalid, Node}
use Rattle.model.specs.Graph.{Graph, empty_graph, is_shallow, with_node}
use Rattle.model.specs.Refusals.{refusal, record_questions}
use Rattle.model.specs.Arena.{count_in, ordered_in, finalized_in, shallow_in, local_root_in, first_child_in, last_child_in, next_sibling_in, prim_count_in, record_length_in, node_in, nodes_in, children_in, order_in, last_of, local_root_of, records_accepted, chain_ends, in_chain_once, in_order_once, shallow_marked, node_valid, holds_graph}
use Rattle.laws.proofs.ListLaws.{all-below}
use Rattle.laws.proofs.SnapshotLaws.{and_first, and_second}
use Rattle.laws.proofs.SnapshotReadLaws.{GrowsFrom, Grows}
use Rattle.arena.proofs.ChainLaws.{or-second, Chain, chain_held}

-- `node_valid`, test by test
pub record HeldNode (bs : List ℕ) (n : ℕ) : Type 0 where
  pub record-named : 28 ≤ record_length_in bs n
  pub record-short : record_length_in bs n ≤ 282
  pub prim-count : prim_count_in bs n ≡ prim_count (node_in bs n).path
  pub chain-ends : chain_ends bs n (count_in bs) (first_child_in bs n) ≡ true
  pub last-child : last_child_in bs n ≡ last_of (children_in bs n)
  pub next-of-0 : n ≡ 0 → next_sibling_in bs 0 ≡ invalid
  pub once : 0 < n → count n (children_in bs (node_in bs n).parent) ≡ 1
  pub not-shallow : eqb (shallow_in bs) 1 ≡ false → is_shallow (nodes_in bs) n (node_in bs n) ≡ false
  pub in_order : ordered_in bs ≡ 1 → count n (order_in bs) ≡ 1

-- `holds_graph`, test by test
pub record Held (bs : List ℕ) : Type 0 where
  pub few : count_in bs ≤ 1024
  pub ordered-bit : ordered_in bs ≤ 1
  pub finalized-bit : finalized_in bs ≤ 1
  pub shallow-bit : shallow_in bs ≤ 1
  pub final : finalized_in bs ≡ 1 → (ordered_in bs ≡ 1) × (shallow_in bs ≡ 0)
  pub node : (n : ℕ) → n < count_in bs → HeldNode bs n
  pub records : Grows (nodes_in bs)
  pub local-root : 0 < count_in bs → local_root_in bs ≡ local_root_of (nodes_in bs)

-- ---- The tests' parts

accepted-grows : (g : Graph) (xs : List Node) → records_accepted g xs ≡ true → GrowsFrom g xs
accepted-grows g [] e = tt
accepted-grows g (x ∷ xs) e =
    let both = (and-eq-true_iff (eqb (refusal (record_questions g x)) 0) (records_accepted (with_node g x) xs)).0 e in
    (eqb-true (refusal (record_questions g x)) 0 both.0, accepted-grows (with_node g x) xs both.1)

module _ (bs : List ℕ) (n : ℕ) (e : node_valid bs n ≡ true) where
  held-node : HeldNode bs n
  held-node = record {
    record-named = leb-true 28 (record_length_in bs n) (search (and_first, and_second));
    record-short = leb-true (record_length_in bs n) 282 (search (and_first, and_second));
    prim-count = eqb-true (prim_count_in bs n) (prim_count (node_in bs n).path) (search (and_first, and_second));
    chain-ends = search (and_first, and_second);
    last-child = eqb-true (last_child_in bs n) (last_of (children_in bs n)) (search (and_first, and_second));
    next-of-0 = λ z. eqb-true (next_sibling_in bs 0) invalid (rw (eq-eqb n 0 z) at chained);
    once = λ l. eqb-true (count n (children_in bs (node_in bs n).parent)) 1 (rw (ne_eqb n 0 (λ z. omega arith)) at chained);
    not-shallow = λ q. shallow (is_shallow (nodes_in bs) n (node_in bs n)) marked q;
    in_order = λ o. eqb-true (count n (order_in bs)) 1
        (or-second (eqb (ordered_in bs) 0) (in_order_once bs n) (search (and_first, and_second)) (ne_eqb (ordered_in bs) 0 (λ z. omega arith)));
  }
    where
      chained : in_chain_once bs n ≡ true
      chained = search (and_first, and_second)

      marked : shallow_marked bs n ≡ true
      marked = search (and_first, and_second)

      shallow : (t : Bool) → (not t || eqb (shallow_in bs) 1) ≡ true → eqb (shallow_in bs) 1 ≡ false → t ≡ false
      shallow true m q = absurd (false≢true (sym q ∙ m))
      shallow false m q = refl

module _ (bs : List ℕ) (e : holds_graph bs ≡ true) where
  pub held : Held bs
  unfolding holds_graph
  held = record {
    few = leb-true (count_in bs) 1024 (search and_first);
    ordered-bit = leb-true (ordered_in bs) 1 (search (and_first, and_second));
    finalized-bit = leb-true (finalized_in bs) 1 (search (and_first, and_second));
    shallow-bit = leb-true (shallow_in bs) 1 (search (and_first, and_second));
    final = λ f. let both = (and-eq-true_iff (eqb (ordered_in bs) 1) (eqb (shallow_in bs) 0)).0
        (or-second (eqb (finalized_in bs) 0) (eqb (ordered_in bs) 1 && eqb (shallow_in bs) 0) (search (and_first, and_second))
        (ne_eqb (finalized_in bs) 0 (λ z. omega arith))) in
        (eqb-true (ordered_in bs) 1 both.0, eqb-true (shallow_in bs) 0 both.1);
    node = λ n h. held-node bs n ((all-below (node_valid bs) (count_in bs)).0 (search (and_first, and_second)) n h);
    records = accepted-grows empty_graph (nodes_in bs) (search (and_first, and_second));
    local-root = λ some-node. eqb-true (local_root_in bs) (local_root_of (nodes_in bs))
        (or-second (eqb (count_in bs) 0) (eqb (local_root_in bs) (local_root_of (nodes_in bs))) (search (and_first, and_second))
        (ne_eqb (count_in bs) 0 (λ z. omega arith)));
  }

-- ---- A child list

pub held-chain : (bs : List ℕ) → Held bs → (v : ℕ) → v < count_in bs → Chain bs v (first_child_in bs v) (children_in bs v)
held-chain bs held v h = chain_held bs v (count_in bs) (first_child_in bs v) held.few (held.node v h).chain-ends
