-- `starting_node_of_class_hierarchy` meets its contract. Assumes nothing.
use Rattle.std.proofs.lemmas.Result.{err_from_is_err_and}
use mathlib.Core.Path.{sym, ap, ◌∙◌}
use Rattle.model.specs.Node.{optional}
use Rattle.model.specs.ArenaCalls.{ValidNode}
use Rattle.arena.proofs.ReadNodes.{readable}
use Rattle.strength.proofs.HierarchyLaws.{no-hierarchy, one-hierarchy}
use Rattle.strength.proofs.calls.starting_node_of_class_hierarchy.Goals as goal

pub local_root-root-requires : goal.local_root-root-requires
local_root-root-requires c =
    let reads-it : ValidNode c.args.arena.now c.args.n =
    readable _ _ (sym c.in_ok-ask_node.ensures) in
    reads-it.opened.whole

pub starting_node_of_class_hierarchy-found-requires : goal.starting_node_of_class_hierarchy-found-requires
starting_node_of_class_hierarchy-found-requires c =
    let reads-it : ValidNode c.args.arena.now c.args.n =
    readable _ _ (sym c.in_ok-ask_node.ensures) in
    record { readable = reads-it; root-read = c.local_root-root.ensures }

pub returns : goal.returns
returns c =
    let found = c.starting_node_of_class_hierarchy-found.ensures in
    one-hierarchy _ _ _ _ (sym c.in_ok-ask_node.ensures)
    found.instance (c.from_number.ensures ∙ ap optional found.class-node)

pub returns-in_err-ask_node : goal.returns-in_err-ask_node
returns-in_err-ask_node c =
    let p = err_from_is_err_and c.from_residual.result c.from_residual.ensures.1 in
    rw (p.1, p.2) (
    no-hierarchy _ _ _ c.in_err-ask_node.field-0.0 c.in_err-ask_node.ensures)
