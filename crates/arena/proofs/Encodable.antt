-- What `encode` asks of a graph: `Encodable`. Every legal graph whose numbers fit their widths is
-- such: `legal-encodable`; and ordering leaves such a graph such: `ordered-encodable`. Assumes
-- nothing.
use mathlib.Core.Path.{◌≡◌, refl}
use mathlib.Core.Bool.{Bool, true, false, false≢true}
use mathlib.Core.List.{List, [], ◌∷◌}
use Prim.Native.Nat.{ℕ, zero, suc, ◌≤◌, ◌<◌}
use native.Mathlib.Omega.{arith}
use lib.ListN.{length}
use Rattle.model.specs.Lists.{All}
use Rattle.model.specs.Node.{Node}
use Rattle.model.specs.Graph.{Graph, empty_graph, size, node_at}
use Rattle.model.specs.Order.{is_stronger, has_order, ordering}
use Rattle.laws.proofs.SnapshotLaws.{FieldsFit, NodesFit}
use Rattle.laws.proofs.OrderLaws.{in-order-ordered}
use Rattle.laws.proofs.LengthLaws.{EachOnce, length-once}
use Rattle.laws.proofs.LegalGraphs.{Legal, empty-legal}
use Rattle.laws.proofs.LegalAlike.{ordered-legal}

-- the graph with no order
abbrev pub unordered : Graph → Graph
unordered g = record { nodes = g.nodes; children = g.children; order = []; ordered = false; finalized = false; shallow = g.shallow }

-- What question 2 asks of a graph: all that is legal but how its order came about ("A room may pass
-- with an order never computed"); and that each number fits its width.
pub record Encodable (g : Graph) : Type 0 where
  pub legal : Legal (unordered g)
  pub fit : NodesFit g.nodes
  pub final : g.finalized ≡ true → (g.ordered ≡ true) × (g.shallow ≡ false)
  pub no-order : g.ordered ≡ false → g.order ≡ []
  pub each-once : g.ordered ≡ true → EachOnce (size g) g.order

pub legal-encodable : (g : Graph) → Legal g → NodesFit g.nodes → Encodable g
legal-encodable g legal fit = record {
  legal = record {
    lengths = legal.lengths;
    tree = legal.tree;
    links = legal.links;
    node-0 = legal.node-0;
    node = legal.node;
    local-root-under-0 = legal.local-root-under-0;
    one-local-root = legal.one-local-root;
    few-nodes = legal.few-nodes;
    few-path-bytes = legal.few-path-bytes;
    not-shallow = legal.not-shallow;
    final = λ e. absurd (false≢true e);
    no-order = λ e. refl;
    in_order = λ e. absurd (false≢true e);
    ordered-final = λ e. absurd (false≢true e);
  };
  fit = fit;
  final = legal.final;
  no-order = legal.no-order;
  each-once = λ e. let ordered = in-order-ordered g legal.tree (legal.in_order e) in
      record { once = ordered.once; nothing-else = ordered.nothing-else };
}

pub empty-encodable : Encodable empty_graph
empty-encodable = legal-encodable empty_graph empty-legal tt

-- ordering does not look at the order there was
pub ordered-encodable : (g : Graph) → Encodable g → has_order g ≡ true → Encodable (ordering g)
unfolding ordering has_order is_stronger
ordered-encodable g ok e = legal-encodable (ordering g) (ordered-legal (unordered g) e ok.legal) ok.fit

-- ---- What follows

pub fit_at : (ns : List Node) → NodesFit ns → (n : ℕ) → n < length ns → FieldsFit (node_at ns n)
fit_at [] fit n h = absurd (omega arith)
fit_at (x ∷ ns) fit zero h = fit.0
fit_at (x ∷ ns) fit (suc n) h = fit_at ns fit.1 n (omega arith)

-- a marked order is as long as the graph
pub order-length : (g : Graph) → Encodable g → g.ordered ≡ true → length g.order ≡ size g
order-length g ok e = length-once (size g) g.order (ok.each-once e).nothing-else (ok.each-once e).once

pub order_below : (g : Graph) → Encodable g → (length g.order ≤ size g) × All (λ x. x < size g) g.order
order_below g ok = go g.ordered refl
  where
    go : (t : Bool) → g.ordered ≡ t → (length g.order ≤ size g) × All (λ x. x < size g) g.order
    go true e = (omega (arith, order-length g ok e), (ok.each-once e).nothing-else)
    go false e = rw (ok.no-order e) (omega arith, tt)
