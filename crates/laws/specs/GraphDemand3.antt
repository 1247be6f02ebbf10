-- Demand 3, over the definitions: one claim about every list of the calls that write a graph,
-- refused ones included. Demand3Clauses.antt has the clauses. The theorem is `demand3` in
-- proofs/GraphDemand3Proof.antt.
use Rattle.std.specs.Prelude.{◌≡◌, true, false, List, [], ℕ, ◌<◌}
use Rattle.model.specs.Graph.{Graph, size}
use Rattle.model.specs.Erasing.{erasable}
use Rattle.model.specs.Calls.{Outcome, Call, call, calls, erasing, deepening, read_into, seed_child}
use Rattle.laws.specs.Demand3Clauses.{Listed, Erased, Deepened}

-- erasing the erasable nodes, and the graph that it leaves
abbrev pub erasing_all : Graph → Outcome
erasing_all g = call (erasing (erasable g)) g

abbrev pub rest : Graph → Graph
rest g = (erasing_all g).graph

pub record Demand3 (g : Graph) : Type 0 where
  pub listed : g.ordered ≡ true → Listed g
  pub erased : 0 < size g → Erased g (erasing_all g).refused (erasing_all g).value (rest g)
  pub deepened : g.finalized ≡ true → (child : List ℕ) → Deepened g (call (deepening child) g).graph

-- "an empty room": question 2 passes with no node, so with no child list and no order, and of the
-- marks it asks "finalized only if ordered and not shallow"
pub record Empty (g : Graph) : Type 0 where
  pub no-nodes : g.nodes ≡ []
  pub no-children : g.children ≡ []
  pub no-order : g.order ≡ []
  pub final : g.finalized ≡ true → (g.ordered ≡ true) × (g.shallow ≡ false)

-- "from an empty room or one just filled by reading or seeding"; "Seeding fills from a graph that
-- such a list left"
pub data Start : Graph → Type 0 where
  empty : {g : Graph} → Empty g → Start g
  read : {g : Graph} (bytes : List ℕ) (old : Graph) → (read_into bytes old).refused ≡ 0 → g ≡ (read_into bytes old).graph → Start g
  seeded : {g : Graph} (from into : Graph) (cs : List Call) (child : List ℕ) → Start from → (seed_child child (calls cs from) into).refused ≡ 0
      → g ≡ (seed_child child (calls cs from) into).graph → Start g

-- "For every list of the calls that write a graph ..., refused ones included, ... this holds after
-- it."
abbrev pub Demand3AfterEveryList : Type 0
Demand3AfterEveryList = (g : Graph) → Start g → (cs : List Call) → Demand3 (calls cs g)
