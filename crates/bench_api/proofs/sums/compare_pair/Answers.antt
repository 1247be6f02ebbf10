-- `compare_pair` meets its contract, case by case. Assumes nothing.
use mathlib.Core.Path.{◌∙◌}
use Rattle.bench_api.proofs.PairLaws.{nodes-passed, siblings-passed, comparing-siblings, comparing-nodes}
use Rattle.bench_api.proofs.sums.compare_pair.Goals as goal

pub compare_sibling_node_strength-requires : goal.compare_sibling_node_strength-requires
compare_sibling_node_strength-requires c =
    siblings-passed _ _ _ _ c.requires.0 c.requires.1 c.requires.2 c.if-siblings.true

pub returns-then-siblings : goal.returns-then-siblings
returns-then-siblings c =
    c.compare_sibling_node_strength.ensures ∙ comparing-siblings _ _ _ _ c.if-siblings.true

pub compare_node_strength-requires : goal.compare_node_strength-requires
compare_node_strength-requires c =
    nodes-passed _ _ _ _ c.requires.0 c.requires.1 c.requires.2

pub returns : goal.returns
returns c =
    c.compare_node_strength.ensures ∙ comparing-nodes _ _ _ _ c.if-siblings.false
