-- What every list of calls keeps of a graph: `Legal`. Question 2 asks all of it but `in_order`, in
-- whose place it asks that a marked order has each node once ("A room may pass with an order never
-- computed"), and `ordered-final`. Every empty graph that an arena may hold is legal, with its
-- marks (`empties-legal`). That each call keeps it is in LegalAdded, LegalAlike, LegalSet,
-- LegalErased and CallsKeepLegal; here is what follows from it at once. Assumes nothing.
use mathlib.Core.Path.{◌≡◌, refl, sym, subst}
use mathlib.Core.Bool.{Bool, true, false, not, false≢true}
use mathlib.Core.List.{[]}
use Prim.Native.Nat.{ℕ, ◌≤◌, ◌<◌}
use native.Mathlib.Omega.{arith}
use lib.ListN.{length}
use Rattle.model.specs.Path.{well_formed, prim_count}
use Rattle.model.specs.Node.{invalid, root_arc, Node, is_inert, is_culled}
use Rattle.model.specs.Graph.{Graph, empty_graph, size, node_at}
use Rattle.model.specs.Strength.{view}
use Rattle.model.specs.Refusals.{most_nodes, most_path_bytes, path_bytes}
use Rattle.laws.specs.GraphDemand3.{Empty}
use Rattle.laws.proofs.PathGrammar.{well-formed-may-end}
use Rattle.laws.proofs.Views.{LegalView}
use Rattle.laws.proofs.Trees.{TreeOf, tree-empty}
use Rattle.laws.proofs.OrderLaws.{InOrder}
use Rattle.laws.proofs.DeepenLaws.{Reached}

-- "Record 0 has arc Root, INERT set, no parent and no origin"
pub record RootRecord (x : Node) : Type 0 where
  pub arc : x.arc ≡ root_arc
  pub inert : is_inert x ≡ true
  pub no-parent : x.parent ≡ invalid
  pub no_origin : x.origin ≡ invalid

-- what questions 5 and 6 ask of a record by itself: "CULLED is allowed unless the arc is Root"
pub record LegalNode (x : Node) : Type 0 where
  pub path : well_formed x.path ≡ true
  pub arc : x.arc ≤ 6
  pub has-specs : x.has_specs ≤ 1
  pub root-unculled : x.arc ≡ root_arc → is_culled x ≡ false

-- n is a node but 0 with arc Root
abbrev pub LocalRoot : Graph → ℕ → Type 0
LocalRoot g n = (0 < n) × (n < size g) × ((node_at g.nodes n).arc ≡ root_arc)

-- each node's depth is reached by its parent's path
abbrev pub DepthsReached : Graph → Type 0
DepthsReached g =
    (c : ℕ) → 0 < c → c < size g → (node_at g.nodes c).depth ≤ prim_count (node_at g.nodes (node_at g.nodes c).parent).path

pub record Legal (g : Graph) : Type 0 where
  -- "parents and origins lower, each node but 0 once in its parent's chain"
  pub lengths : length g.children ≡ size g
  pub tree : TreeOf g
  pub links : LegalView (size g) (view g.nodes)
  -- "records such as the snapshot reader accepts"
  pub node-0 : 0 < size g → RootRecord (node_at g.nodes 0)
  pub node : (n : ℕ) → n < size g → LegalNode (node_at g.nodes n)
  pub local-root-under-0 : (n : ℕ) → LocalRoot g n → (node_at g.nodes n).parent ≡ 0
  pub one-local-root : (a b : ℕ) → LocalRoot g a → LocalRoot g b → a ≡ b
  pub few-nodes : size g ≤ most_nodes
  pub few-path-bytes : path_bytes g.nodes ≤ most_path_bytes
  -- "shallow set where a parent is"
  pub not-shallow : g.shallow ≡ false → DepthsReached g
  -- "finalized only if ordered and not shallow"
  pub final : g.finalized ≡ true → (g.ordered ≡ true) × (g.shallow ≡ false)
  -- a marked order is the walk of child lists that are sorted
  pub no-order : g.ordered ≡ false → g.order ≡ []
  pub in_order : g.ordered ≡ true → InOrder g
  -- "Acceptance sets ordered, and finalized unless shallow"; without a node none is accepted
  pub ordered-final : g.ordered ≡ true → 0 < size g → g.finalized ≡ not g.shallow

marked-legal : (ordered finalized shallow : Bool) → (finalized ≡ true → (ordered ≡ true) × (shallow ≡ false))
    → Legal (record { nodes = []; children = []; order = []; ordered = ordered; finalized = finalized; shallow = shallow })
marked-legal ordered finalized shallow final = record {
  lengths = refl;
  tree = tree-empty;
  links = record { parent-lower = λ c h l. absurd (omega arith); origin-lower = λ c h l. absurd (omega arith) };
  node-0 = λ h. absurd (omega arith);
  node = λ n h. absurd (omega arith);
  local-root-under-0 = λ n r. absurd (omega (arith, r.1));
  one-local-root = λ a b r s. absurd (omega (arith, r.1));
  few-nodes = omega arith;
  few-path-bytes = omega arith;
  not-shallow = λ e c h l. absurd (omega arith);
  final = final;
  no-order = λ e. refl;
  in_order = λ e. record { sorted = λ v h. absurd (omega arith); walked = refl };
  ordered-final = λ e some. absurd (omega arith);
}

pub empties-legal : (g : Graph) → Empty g → Legal g
empties-legal g empty = subst Legal same (marked-legal g.ordered g.finalized g.shallow empty.final)
  where
    same : record { nodes = []; children = []; order = []; ordered = g.ordered; finalized = g.finalized; shallow = g.shallow } ≡ g
    same = λ i. record {
      nodes = sym empty.no-nodes i;
      children = sym empty.no-children i;
      order = sym empty.no-order i;
      ordered = g.ordered;
      finalized = g.finalized;
      shallow = g.shallow;
    }

pub empty-marked : Empty empty_graph
empty-marked = record { no-nodes = refl; no-children = refl; no-order = refl; final = λ e. absurd (false≢true e) }

pub empty-legal : Legal empty_graph
empty-legal = empties-legal empty_graph empty-marked

-- ---- What follows

-- a graph without the shallow mark can be deepened
pub legal-reached : (g : Graph) → Legal g → g.shallow ≡ false → Reached g
legal-reached g legal e = record {
  may-end = λ n h. well-formed-may-end (node_at g.nodes n).path (legal.node n h).path;
  reached = legal.not-shallow e;
}

-- no Root arc is CULLED
pub roots-unculled : (g : Graph) → Legal g → (n : ℕ) → n < size g → (node_at g.nodes n).arc ≡ root_arc → is_culled (node_at g.nodes n) ≡ false
roots-unculled g legal n h = (legal.node n h).root-unculled
