-- `append_record` meets its contract: no field is missing, and the node read, with the path behind
-- its numbers, is the record's. Assumes nothing.
use mathlib.Core.Path.{ap, subst, ◌∙◌}
use Rattle.model.specs.Node.{Node}
use Rattle.model.specs.Graph.{with_node}
use Rattle.model.specs.Arena.{decode, encode}
use Rattle.snapshot.specs.Filling.{NodeTaken}
use Rattle.snapshot.proofs.SnapshotFill.{can-append, node-of-record}
use Rattle.snapshot.proofs.fill.append_record.Goals as goal

pub append_node-requires : goal.append_node-requires
append_node-requires c =
    can-append _ _ _ _ c.requires _ (subst (NodeTaken c.args.body.now c.args.prim_count) c.in-Some.is c.read_node.ensures)

pub returns : goal.returns
returns c =
    let read = subst (NodeTaken c.args.body.now c.args.prim_count) c.in-Some.is c.read_node.ensures in
    let arena = c.args.arena.now in
    c.append_node.ensures
    ∙ ap (λ (x : Node). encode (with_node (decode arena) x) arena) (node-of-record _ _ _ _ c.requires _ read)
