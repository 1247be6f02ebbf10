-- `compare_siblings` meets its contract: one node twice is Equal, and two different nodes with one
-- parent are above node 0. Assumes nothing.
use mathlib.Core.Path.{sym, ap, ◌∙◌}
use Rattle.model.specs.Strength.{view_of, compare_sibling_node_strength}
use Rattle.model.specs.Arena.{decode}
use Rattle.laws.proofs.StrengthFlips.{siblings-same}
use Rattle.strength.proofs.SiblingLaws.{one_parent, left-above, right-above}
use Rattle.strength.proofs.calls.compare_siblings.Goals as goal

pub returns-then-a-b : goal.returns-then-a-b
returns-then-a-b c =
    let u = view_of (decode c.args.arena.now) in
    sym (ap (compare_sibling_node_strength u c.args.a) (sym c.if-a-b.true) ∙ siblings-same u c.args.a)

pub local_root-root-requires : goal.local_root-root-requires
local_root-root-requires c =
    c.requires.left.opened.whole

pub compare_sibling_node_strength-requires : goal.compare_sibling_node_strength-requires
compare_sibling_node_strength-requires c =
    record {
      left = record { readable = c.requires.left; root-read = c.local_root-root.ensures };
      right = record { readable = c.requires.right; root-read = c.local_root-root.ensures };
      left-above = left-above _ _ _ c.requires c.if-a-b.false;
      right-above = right-above _ _ _ c.requires c.if-a-b.false;
      parents = one_parent _ _ _ c.requires c.if-a-b.false;
    }

pub returns : goal.returns
returns c =
    c.compare_sibling_node_strength.ensures
