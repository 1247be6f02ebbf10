-- What stands in a set before the pass over the links. What the functions answer is in
-- model/specs/Culling.antt and Erasing.antt.
use Rattle.std.specs.Prelude.{◌≡◌, Bool, ◌&&◌, List, ℕ, ◌<◌, ltb, length, get_or}
use Rattle.model.specs.Lists.{bit}
use Rattle.model.specs.Graph.{Graph, size}
use Rattle.model.specs.Culling.{is_marked}

-- n is a node, and marked
abbrev pub marks : Graph → ℕ → Bool
marks g n = ltb n (size g) && is_marked g.nodes n

-- 1,024 bytes, of which those below n are 1 where marked, else 0
pub record MarkedBelow (g : Graph) (n : ℕ) (bytes : List ℕ) : Type 0 where
  pub long : length bytes ≡ 1024
  pub byte : (k : ℕ) → k < n → get_or bytes k 0 ≡ bit (marks g k)
