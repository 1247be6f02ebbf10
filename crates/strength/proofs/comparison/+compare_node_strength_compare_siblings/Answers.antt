-- The two comparisons of the cycle meet their contracts: siblings ask nodes whose sum is lower, and
-- nodes ask siblings whose sum is no higher. Assumes nothing.
use mathlib.Core.Path.{◌∙◌}
use native.Mathlib.Omega.{arith}
use Rattle.strength.proofs.ComparisonCycle.{siblings-resolved, asked-itself, asked-lower, nodes-compared, parted-pair}
use Rattle.strength.proofs.comparison.+compare_node_strength_compare_siblings.Goals as goal

-- ---- compare_node_strength

pub compare_node_strength-by_rank-requires : goal.compare_node_strength-by_rank-requires
compare_node_strength-by_rank-requires t c =
    (parted-pair c.requires.0 c.requires.1 _ c.in-Apart.is c.part_chains.ensures).0

pub compare_node_strength-compare_siblings-requires : goal.compare_node_strength-compare_siblings-requires
compare_node_strength-compare_siblings-requires t c =
    let parted = parted-pair c.requires.0 c.requires.1 _ c.in-Apart.is c.part_chains.ensures in
    (omega (arith, c.decreases, parted.1), (parted.0, c.in-None.ensures))

pub compare_node_strength-returns-in-Same : goal.compare_node_strength-returns-in-Same
compare_node_strength-returns-in-Same t c = nodes-compared _ _ _ _ _ c.in-Same.is c.part_chains.ensures

pub compare_node_strength-returns-in-Above : goal.compare_node_strength-returns-in-Above
compare_node_strength-returns-in-Above t c = nodes-compared _ _ _ _ _ c.in-Above.is c.part_chains.ensures

pub compare_node_strength-returns-in-Below : goal.compare_node_strength-returns-in-Below
compare_node_strength-returns-in-Below t c = nodes-compared _ _ _ _ _ c.in-Below.is c.part_chains.ensures

pub compare_node_strength-returns-in-Some : goal.compare_node_strength-returns-in-Some
compare_node_strength-returns-in-Some t c =
    c.in-Some.ensures ∙ nodes-compared _ _ _ _ _ c.in-Apart.is c.part_chains.ensures

pub compare_node_strength-returns-in-None : goal.compare_node_strength-returns-in-None
compare_node_strength-returns-in-None t c =
    c.compare_siblings.ensures ∙ nodes-compared _ _ _ _ _ c.in-Apart.is c.part_chains.ensures

-- ---- compare_siblings

pub compare_siblings-returns-then-x-y : goal.compare_siblings-returns-then-x-y
compare_siblings-returns-then-x-y t c = asked-itself c.requires.0 _ c.in-Ask.is c.if-x-y.true c.weigh.ensures

pub compare_siblings-compare_node_strength-requires : goal.compare_siblings-compare_node_strength-requires
compare_siblings-compare_node_strength-requires t c =
    let asked = asked-lower c.requires.0 _ c.in-Ask.is c.weigh.ensures in
    (omega (arith, c.decreases, asked.2), (asked.0, asked.1))

pub compare_siblings-returns-in-Settled : goal.compare_siblings-returns-in-Settled
compare_siblings-returns-in-Settled t c = siblings-resolved c.requires.0 _ _ c.in-Settled.is c.weigh.ensures

pub compare_siblings-returns-else-x-y : goal.compare_siblings-returns-else-x-y
compare_siblings-returns-else-x-y t c =
    c.then.ensures ∙ rw c.compare_node_strength.ensures (siblings-resolved c.requires.0 _ _ c.in-Ask.is c.weigh.ensures)
