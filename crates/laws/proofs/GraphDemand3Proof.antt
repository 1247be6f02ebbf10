-- Demand 3 (specs/GraphDemand3.antt): every list of calls leaves a legal graph
-- (CallsKeepLegal.antt), and each clause holds of every legal graph. Assumes nothing.
use mathlib.Core.Path.{◌≡◌, refl, sym, ap, ◌∙◌}
use mathlib.Core.Bool.{Bool, true, false, not}
use mathlib.Core.List.{List}
use Prim.Native.Nat.{ℕ, ◌<◌}
use lib.ListN.{length}
use borrow.Author.Tests.{lt-ltb, not-false}
use Rattle.model.specs.Path.{last_name}
use Rattle.model.specs.Graph.{Graph, size}
use Rattle.model.specs.Strength.{view, view_of, compare_node_strength}
use Rattle.model.specs.Order.{ordering}
use Rattle.model.specs.Culling.{is_erasable}
use Rattle.model.specs.Erasing.{new_number, erase_by}
use Rattle.model.specs.Deepening.{append_child_name_to_all_sites}
use Rattle.model.specs.Calls.{Outcome, deepening, call, calls, deepen_questions, append_child_name, erase_set}
use Rattle.laws.specs.Demand3Clauses.{Listed, kept, Free, Stand, Afresh, Erased, Deepened}
use Rattle.laws.specs.GraphDemand3.{erasing_all, rest, Demand3, Demand3AfterEveryList}
use Rattle.laws.proofs.Views.{LegalView}
use Rattle.laws.proofs.StrengthCongruence.{nodes-alike}
use Rattle.laws.proofs.OrderLaws.{in-order-ordered, in-order-has-order, in-order-afresh, stronger-antisymmetric}
use Rattle.laws.proofs.ErasableLaws.{Spared, erasable-spared, erasable-largest}
use Rattle.laws.proofs.Spares.{Spares}
use Rattle.laws.proofs.EraseSets.{erasable-stays, erasable-spares, erasable-accepted}
use Rattle.laws.proofs.EraseLaws.{size-erased, node-erased, children-erased, order-erased, marks-erased, erase-looks-like}
use Rattle.laws.proofs.DeepenLaws.{deepen-looks-like}
use Rattle.laws.proofs.LegalGraphs.{Legal, legal-reached, roots-unculled}
use Rattle.laws.proofs.LegalAlike.{deepens-by-name}
use Rattle.laws.proofs.LegalErased.{some-node-left, erased-legal}
use Rattle.laws.proofs.AcceptedQuestions.{Accepted, decided-keeps}
use Rattle.laws.proofs.CallsKeepLegal.{every-list-legal}

-- ---- "The rest stand as before", whatever set went that spares what it must

pub erased-stand : (kept : ℕ → Bool) (g : Graph) → Spares g kept → LegalView (size g) (view g.nodes) → length g.children ≡ size g
    → Stand kept g (erase_by kept g)
erased-stand kept g spares links lengths = record {
  fields = node-erased kept g;
  chains = children-erased kept g lengths;
  compare = nodes-alike links (erase-looks-like kept g spares links);
}

-- ---- "Ordering afresh changes nothing"

legal-afresh : (g : Graph) → Legal g → 0 < size g → g.ordered ≡ true → Afresh g
unfolding ordering
legal-afresh g legal some-node e =
    let antisymmetric = stronger-antisymmetric g in
    let same = in-order-afresh g antisymmetric legal.lengths (legal.in_order e) in
    record {
      has-order = in-order-has-order g antisymmetric legal.lengths (legal.in_order e);
      anew = λ i. record {
        nodes = g.nodes;
        children = same.0 i;
        order = same.1 i;
        ordered = sym e i;
        finalized = sym (legal.ordered-final e some-node) i;
        shallow = g.shallow;
      };
    }

module _ (g : Graph) (legal : Legal g) where
  -- ---- "If the graph is ordered"

  legal-listed : g.ordered ≡ true → Listed g
  legal-listed e =
      let order = in-order-ordered g legal.tree (legal.in_order e) in
      record { each-once = order.once; nothing-else = order.nothing-else; earlier-stronger = order.stronger }

  -- ---- "If its erasable nodes are erased"

  module _ (some-node : 0 < size g) where
    spares : Spares g (kept g)
    spares = erasable-spares g legal.few-nodes legal.links some-node (roots-unculled g legal)

    -- the call is accepted
    erasing-all : erasing_all g ≡ record { refused = 0; value = new_number (kept g) (size g); graph = erase_by (kept g) g }
    unfolding erase_set
    erasing-all =
        rw (lt-ltb 0 (size g) some-node, erasable-accepted g legal.few-nodes legal.links some-node (roots-unculled g legal))

    rest-erased : rest g ≡ erase_by (kept g) g
    rest-erased = ap (λ (o : Outcome). o.graph) erasing-all

    pub some-node-rests : 0 < size (rest g)
    some-node-rests = rw rest-erased (some-node-left (kept g) g legal spares some-node)

    -- what goes is erasable
    gone-erasable : (n : ℕ) → n < size g → kept g n ≡ false → is_erasable g.nodes n ≡ true
    gone-erasable n h k = not-false (is_erasable g.nodes n) (sym (erasable-stays g legal.few-nodes n h) ∙ k)

    legal-erased : Erased g (erasing_all g).refused (erasing_all g).value (rest g)
    legal-erased = record {
      accepted = ap (λ (o : Outcome). o.refused) erasing-all;
      answered = ap (λ (o : Outcome). o.value) erasing-all ∙ sym (ap size rest-erased ∙ size-erased (kept g) g);
      went-marked = λ n h k. (erasable-spared g.nodes legal.links some-node).all-marked n h (gone-erasable n h k);
      parents-kept = spares.parent;
      origins-kept = spares.origin;
      largest = λ goes free n h e.
          erasable-stays g legal.few-nodes n h ∙ ap not (erasable-largest g.nodes legal.links some-node goes (spared goes free) n h e);
      rest-stands = rw rest-erased (erased-stand (kept g) g spares legal.links legal.lengths);
      list-stands = λ e. rw rest-erased ((marks-erased (kept g) g).0 ∙ e, order-erased (kept g) g);
      afresh = λ e.
          rw rest-erased
          (legal-afresh (erase_by (kept g) g) (erased-legal (kept g) g legal spares some-node) (some-node-left (kept g) g legal spares some-node)
          ((marks-erased (kept g) g).0 ∙ e));
    }
      where
        spared : (goes : ℕ → Bool) → Free g goes → Spared g.nodes goes
        spared goes free = record { all-marked = free.marked; no-parent = free.no-parent; no_origin = free.no_origin }

  -- ---- "If instead the graph is finalized and is deepened by a child name"

  legal-deepened : g.finalized ≡ true → (child : List ℕ) → Deepened g (call (deepening child) g).graph
  unfolding append_child_name
  legal-deepened e child = record {
    pairs-as-before = λ a b h l.
        decided-keeps (deepen_questions child g) g 0 (append_child_name_to_all_sites child g)
        (λ after. compare_node_strength (view_of after) a b ≡ compare_node_strength (view_of g) a b) refl (λ q. alike q a b h l) refl;
  }
    where
      alike : Accepted (deepen_questions child g) → (a b : ℕ) → a < size g → b < size g
          → compare_node_strength (view_of (append_child_name_to_all_sites child g)) a b ≡ compare_node_strength (view_of g) a b
      alike q a b h l =
          nodes-alike legal.links (deepen-looks-like (last_name child) (deepens-by-name child g q) g legal.links
          (legal-reached g legal (legal.final e).1)) a b h l refl refl

  pub legal-meets-demand : Demand3 g
  legal-meets-demand = record { listed = legal-listed; erased = legal-erased; deepened = legal-deepened }

-- "For every list of the calls that write a graph ..., refused ones included, ... this holds after
-- it."
pub demand3 : Demand3AfterEveryList
demand3 g start cs = legal-meets-demand (calls cs g) (every-list-legal g start cs)
