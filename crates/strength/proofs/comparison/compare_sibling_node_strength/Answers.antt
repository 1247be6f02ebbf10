-- `compare_sibling_node_strength` meets its contract: two arcs settle it. Assumes nothing.
use Rattle.strength.proofs.comparison.compare_sibling_node_strength.Goals as goal

pub returns-in-Some : goal.returns-in-Some
returns-in-Some c =
    c.in-Some.ensures
