-- The view of an arena: what the comparison reads of the graph that its bytes hold; and what is
-- asked of a node's number before it is read.
use Rattle.std.specs.Prelude.{◌≡◌, List, ℕ}
use Rattle.model.specs.Strength.{View, view_of}
use Rattle.model.specs.Arena.{local_root_in, decode}
use Rattle.model.specs.ArenaCalls.{ValidNode}

abbrev pub view_in : List ℕ → View
view_in bs = view_of (decode bs)

-- n is a node of the graph, and `root` is its local root's number, 0 for none
pub record ValidNodeAndRoot (bs : List ℕ) (root n : ℕ) : Type 0 where
  pub readable : ValidNode bs n
  pub root-read : root ≡ local_root_in bs
