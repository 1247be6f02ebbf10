-- The graph that an arena holds after `encode` is the graph encoded: `decode-encode`. Assumes
-- nothing.
use mathlib.Core.Path.{◌≡◌, refl, sym, ap, ◌∙◌}
use mathlib.Core.Bool.{Bool, true, false, cond}
use mathlib.Core.List.{List, []}
use Prim.Native.Nat.{ℕ, ◌≤◌, ◌<◌}
use native.Mathlib.Omega.{arith}
use lib.Dec.{eqb}
use lib.ListN.{length}
use Rattle.model.specs.Lists.{All, bit, count}
use Rattle.model.specs.Node.{Node, no_node}
use Rattle.model.specs.Graph.{Graph, size, children_of}
use Rattle.model.specs.Strength.{view}
use Rattle.model.specs.Arena.{arena_bytes, count_in, next_sibling_in, order_entry_in, node_in, tabulate, nodes_in, chain_in, children_in, order_in, after_in, decode, encode}
use Rattle.laws.proofs.ListLaws.{all-imp}
use Rattle.laws.proofs.LengthLaws.{length-at-most-once}
use Rattle.arena.proofs.TabulateLaws.{tabulate-same}
use Rattle.arena.proofs.ChainLaws.{Linked, linked-after, chain-linked}
use Rattle.laws.proofs.Trees.{Child, all-children, child-once}
use Rattle.arena.proofs.Encodable.{Encodable, order-length}
use Rattle.arena.proofs.ArenaFields.{count-encode, ordered-encode, finalized-encode, shallow-encode, order-entry-encode, first-child-encode, next-sibling-encode, node-encode}

-- ---- The graph read back

bit-back : (t : Bool) → eqb (bit t) 1 ≡ t
bit-back true = refl
bit-back false = refl

module _ (g : Graph) (bs : List ℕ) (ok : Encodable g) (whole : length bs ≡ arena_bytes) where
  abbrev arena : List ℕ
  arena = encode g bs

  counted : count_in arena ≡ size g
  counted = count-encode g bs ok whole

  pub nodes-encode : nodes_in arena ≡ g.nodes
  nodes-encode =
      tabulate-same (node_in arena) no_node (count_in arena) g.nodes counted (λ n h. node-encode g bs ok whole n (omega (arith, counted)))

  -- each child list: its nodes, how many, and their links
  module _ (v : ℕ) where
    abbrev children : List ℕ
    children = children_of g v

    children-all : All (Child (size g) (view g.nodes).parent v) children
    children-all = all-children (size g) (view g.nodes).parent (children_of g) ok.legal.tree v

    children-once : (a : ℕ) → count a children ≤ 1
    children-once = child-once (size g) (view g.nodes).parent (children_of g) ok.legal.tree v

    children-below : All (λ c. c < size g) children
    children-below = all-imp (Child (size g) (view g.nodes).parent v) (λ c. c < size g) children (λ c child. child.1) children-all

    pub children-few : length children ≤ size g
    children-few = length-at-most-once (size g) children children-below (λ a l. children-once a)

    pub children-read : All (λ c. (c < count_in arena) × ((node_in arena c).parent ≡ v)) children
    children-read =
        all-imp (Child (size g) (view g.nodes).parent v) (λ c. (c < count_in arena) × ((node_in arena c).parent ≡ v)) children
        (λ c child. (omega (arith, counted, child.1), ap (λ (x : Node). x.parent) (node-encode g bs ok whole c child.1) ∙ child.2)) children-all

    pub children-linked : Linked (next_sibling_in arena) children
    children-linked =
        linked-after (next_sibling_in arena) children children-once
        (all-imp (Child (size g) (view g.nodes).parent v) (λ c. next_sibling_in arena c ≡ after_in c children) children
        (λ c child. next-sibling-encode g bs ok whole c child.1 ∙ ap (λ (p : ℕ). after_in c (children_of g p)) child.2) children-all)

    pub children-encode : v < size g → children_in arena v ≡ children_of g v
    children-encode h =
        ap (chain_in arena (count_in arena)) (first-child-encode g bs ok whole v h)
        ∙ chain-linked arena (count_in arena) children (omega (arith, counted, ok.legal.few-nodes)) (omega (arith, counted, children-few))
        (all-imp (λ c. (c < count_in arena) × ((node_in arena c).parent ≡ v)) (λ c. c < count_in arena) children (λ c read. read.0) children-read)
        children-linked

  pub order-encode : order_in arena ≡ g.order
  order-encode = rw (ordered-encode g bs ok whole, bit-back g.ordered) (go g.ordered refl)
    where
      go : (t : Bool) → g.ordered ≡ t → cond t (tabulate (order_entry_in arena) 0 (count_in arena)) [] ≡ g.order
      go true e =
          let long : count_in arena ≡ length g.order = counted ∙ sym (order-length g ok e) in
          tabulate-same (order_entry_in arena) 0 (count_in arena) g.order long (λ n h. order-entry-encode g bs ok whole n (omega arith))
      go false e = sym (ok.no-order e)

  pub decode-encode : decode (encode g bs) ≡ g
  unfolding decode
  decode-encode =
      let lists : tabulate (children_in arena) 0 (count_in arena) ≡ g.children =
      tabulate-same (children_in arena) [] (count_in arena) g.children (counted ∙ sym ok.legal.lengths)
      (λ v h. children-encode v (omega (arith, counted))) in
      λ i. record {
        nodes = nodes-encode i;
        children = lists i;
        order = order-encode i;
        ordered = (ap (λ (m : ℕ). eqb m 1) (ordered-encode g bs ok whole) ∙ bit-back g.ordered) i;
        finalized = (ap (λ (m : ℕ). eqb m 1) (finalized-encode g bs ok whole) ∙ bit-back g.finalized) i;
        shallow = (ap (λ (m : ℕ). eqb m 1) (shallow-encode g bs ok whole) ∙ bit-back g.shallow) i;
      }
