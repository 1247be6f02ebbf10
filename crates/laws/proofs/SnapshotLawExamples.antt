-- The graph of two nodes that crates/model writes and reads back: the laws of SnapshotLaws.antt and
-- SnapshotReadLaws.antt speak of it. Assumes nothing.
use mathlib.Core.Path.{◌≡◌, refl}
use mathlib.Core.List.{List, [], ◌∷◌}
use native.Mathlib.Omega.{arith}
use Rattle.model.specs.Path.{is_name_start, is_word_byte, is_selection_byte, well_formed, prim_count}
use Rattle.model.specs.Node.{Node}
use Rattle.model.specs.Graph.{with_node}
use Rattle.model.specs.Calls.{root_node}
use Rattle.model.proofs.Text.{bytes}
use Rattle.model.proofs.SnapshotExamples.{reference, two}
use Rattle.laws.proofs.SnapshotLaws.{NodesFit}
use Rattle.laws.proofs.SnapshotReadLaws.{built, Grows}

abbrev two_nodes : List Node
two_nodes = root_node 0 0 (bytes "/M") ∷ reference ∷ []

two-built : built two_nodes ≡ two
two-built = refl

two-fit : NodesFit two_nodes
unfolding prim_count is_name_start is_word_byte is_selection_byte
two-fit = omega arith

two-grow : Grows two_nodes
unfolding with_node prim_count well_formed is_name_start is_word_byte is_selection_byte
two-grow = (refl, (refl, tt))
