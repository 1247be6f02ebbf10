-- What demand 3 (document 00) asks of a graph, its words beside each clause. What a call answers
-- and the graph that it leaves are arguments: GraphDemand3.antt asks the clauses of the calls on
-- graphs, call_sequences/specs/Demand3.antt of the calls on bytes and the graphs that these hold.
use Rattle.std.specs.Prelude.{◌≡◌, Bool, true, false, map, ℕ, ◌<◌}
use Rattle.std.specs.declared.cmp.Ordering.TheVariants.{Less}
use Rattle.model.specs.Lists.{All, Pairs, count, filter}
use Rattle.model.specs.Graph.{Graph, size, node_at, children_of}
use Rattle.model.specs.Strength.{view_of, compare_node_strength}
use Rattle.model.specs.Order.{has_order, ordering}
use Rattle.model.specs.Culling.{is_marked}
use Rattle.model.specs.Erasing.{stays, erasable, new_number, renumbered}

-- ---- The order

-- "If the graph is ordered, its list has each node once, and of any two the earlier is the
-- stronger."
pub record Listed (g : Graph) : Type 0 where
  pub each-once : (n : ℕ) → n < size g → count n g.order ≡ 1
  pub nothing-else : All (λ n. n < size g) g.order
  pub earlier-stronger : Pairs (λ a b. compare_node_strength (view_of g) a b ≡ Less) g.order

-- ---- Erasing: "If its erasable nodes are erased"

-- what stays
abbrev pub kept : Graph → ℕ → Bool
kept g = stays (erasable g)

-- "a set of marked nodes that no node outside it had as parent or origin"
pub record Free (g : Graph) (goes : ℕ → Bool) : Type 0 where
  pub marked : (n : ℕ) → n < size g → goes n ≡ true → is_marked g.nodes n ≡ true
  pub no-parent : (n : ℕ) → 0 < n → n < size g → goes n ≡ false → goes (node_at g.nodes n).parent ≡ false
  pub no_origin : (n : ℕ) → 0 < n → n < size g → goes n ≡ false → goes (node_at g.nodes n).origin ≡ false

-- "the rest stand as before", what is kept by its new number
pub record Stand (kept : ℕ → Bool) (g rest : Graph) : Type 0 where
  -- "the fields a snapshot holds are unchanged but for that renumbering of parent and origin"
  pub fields : (n : ℕ) → n < size g → kept n ≡ true → node_at rest.nodes (new_number kept n) ≡ renumbered kept (size g) (node_at g.nodes n)
  -- "chains lose only what went"
  pub chains : (n : ℕ) → n < size g → kept n ≡ true → children_of rest (new_number kept n) ≡ map (new_number kept) (filter kept (children_of g n))
  -- "any two of them compare as before"
  pub compare : (a b : ℕ) → a < size g → b < size g → kept a ≡ true → kept b ≡ true
      → compare_node_strength (view_of rest) (new_number kept a) (new_number kept b) ≡ compare_node_strength (view_of g) a b

-- "Ordering afresh sorts and walks anew, a finalized graph too"
pub record Afresh (g : Graph) : Type 0 where
  pub has-order : has_order g ≡ true
  pub anew : ordering g ≡ g

-- the call's refusal and value, and the graph that it leaves
pub record Erased (g : Graph) (refused value : ℕ) (rest : Graph) : Type 0 where
  -- erasing them is accepted, and answers how many are kept: the erased graph's own count
  pub accepted : refused ≡ 0
  pub answered : value ≡ size rest
  -- "every node that went was marked"
  pub went-marked : (n : ℕ) → n < size g → kept g n ≡ false → is_marked g.nodes n ≡ true
  -- "none was parent or origin of a kept one"
  pub parents-kept : (n : ℕ) → 0 < n → n < size g → kept g n ≡ true → kept g (node_at g.nodes n).parent ≡ true
  pub origins-kept : (n : ℕ) → 0 < n → n < size g → kept g n ≡ true → kept g (node_at g.nodes n).origin ≡ true
  -- "and every set of marked nodes that no node outside it had as parent or origin lies within what
  -- went"
  pub largest : (goes : ℕ → Bool) → Free g goes → (n : ℕ) → n < size g → goes n ≡ true → kept g n ≡ false
  pub rest-stands : Stand (kept g) g rest
  -- "and, where the graph was ordered, its list is the old one without what went"
  pub list-stands : g.ordered ≡ true → (rest.ordered ≡ true) × (rest.order ≡ map (new_number (kept g)) (filter (kept g) g.order))
  -- "and ordering afresh changes nothing"
  pub afresh : g.ordered ≡ true → Afresh rest

-- ---- Deepening

-- "If instead the graph is finalized and is deepened by a child name, every pair compares as
-- before."
pub record Deepened (g after : Graph) : Type 0 where
  pub pairs-as-before : (a b : ℕ) → a < size g → b < size g → compare_node_strength (view_of after) a b ≡ compare_node_strength (view_of g) a b
