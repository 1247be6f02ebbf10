-- The measures of the two comparisons are twice the nodes' sum, and one more for nodes.
use Prim.Native.Nat.{◌+◌, ◌*◌}
use Rattle.strength.proofs.comparison.+compare_node_strength_compare_siblings.Given as goal

abbrev pub decreases-compare_node_strength : goal.decreases-compare_node_strength
decreases-compare_node_strength l = 2 * (l.a + l.b) + 1

abbrev pub decreases-compare_siblings : goal.decreases-compare_siblings
decreases-compare_siblings l = 2 * (l.a + l.b)
