-- What is known of two siblings before they are compared. What the calls answer is
-- model/specs/ArenaCalls.antt's `AnsweredOrder` and `AnsweredTest` of definitions in model/specs.
use Rattle.std.specs.Prelude.{◌≡◌, true, ◌||◌, List, ℕ, eqb}
use Rattle.model.specs.Graph.{node_at}
use Rattle.model.specs.Arena.{decode}
use Rattle.model.specs.ArenaCalls.{ValidNode}

-- questions 1 to 4 and 8 pass: two nodes with one parent, or one node twice
pub record Siblings (bs : List ℕ) (a b : ℕ) : Type 0 where
  pub left : ValidNode bs a
  pub right : ValidNode bs b
  pub one_parent : (eqb a b || eqb (node_at (decode bs).nodes a).parent (node_at (decode bs).nodes b).parent) ≡ true
