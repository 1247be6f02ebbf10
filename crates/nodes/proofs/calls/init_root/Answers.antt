-- `init_root` meets its contract: the questions in their order, and then node 0. Assumes nothing.
use Rattle.std.proofs.lemmas.Result.{err_from_is_err_and}
use Rattle.std.specs.Prelude.{Some}
use mathlib.Core.Path.{◌≡◌, sym, ap, ◌∙◌}
use mathlib.Core.Bool.{true}
use mathlib.Core.List.{[]}
use Rattle.model.specs.Path.{well_formed, count_prims}
use Rattle.model.specs.Node as model
use Rattle.model.specs.Graph.{with_node}
use Rattle.arena.specs.declared.Node.{Node}
use Rattle.arena.specs.Slot.{node_of}
use Rattle.model.specs.Arena.{decode, encode}
use Rattle.model.specs.ArenaCalls.{ValidArena}
use Rattle.laws.proofs.ArenaCallLaws.{passed-opened}
use Rattle.path.proofs.ReadingLaws.{counted-well-formed, uncounted-malformed}
use Rattle.validate.proofs.RecordCheckLaws.{counted-names, few-names}
use Rattle.laws.proofs.PathGrammar.{well-formed-length}
use Rattle.nodes.proofs.AddingLaws.{start-refused, start-over, start-malformed, start-done, can-start, start-node}
use Rattle.nodes.proofs.calls.init_root.Goals as goal

pub count-requires : goal.count-requires
count-requires c =
    let opened : ValidArena c.args.arena.now =
    passed-opened _ [] (sym c.in_ok-ask_graph.ensures) in
    opened.whole

pub returns-then-count-ne0 : goal.returns-then-count-ne0
returns-then-count-ne0 c =
    let opened : ValidArena c.args.arena.now =
    passed-opened _ [] (sym c.in_ok-ask_graph.ensures) in
    start-over _ _ _ _ opened (λ z. c.if-count-ne0.true (c.count.ensures ∙ z))

pub returns-in_default : goal.returns-in_default
returns-in_default c =
    let opened : ValidArena c.args.arena.now =
    passed-opened _ [] (sym c.in_ok-ask_graph.ensures) in
    start-malformed _ _ _ _ opened (sym c.count.ensures ∙ c.if-count-ne0.false)
    (sym (uncounted-malformed _ (sym c.prim_count-read.ensures ∙ c.in_default.is)))

pub start_record-requires : goal.start_record-requires
start_record-requires c =
    let counted : count_prims c.args.path.now ≡ Some c.in-Some.prims =
    sym c.prim_count-read.ensures ∙ c.in-Some.is in
    let formed : well_formed c.args.path.now ≡ true =
    sym (counted-well-formed _ _ counted) in
    (few-names _ _ counted, well-formed-length _ formed)

pub append_node-requires : goal.append_node-requires
append_node-requires c =
    let opened : ValidArena c.args.arena.now =
    passed-opened _ [] (sym c.in_ok-ask_graph.ensures) in
    let counted : count_prims c.args.path.now ≡ Some c.in-Some.prims =
    sym c.prim_count-read.ensures ∙ c.in-Some.is in
    let formed : well_formed c.args.path.now ≡ true =
    sym (counted-well-formed _ _ counted) in
    rw c.start_record.ensures
    (can-start c.args.arena.now c.args.stack c.args.layer c.args.path.now opened (sym c.count.ensures ∙ c.if-count-ne0.false) _ formed
    (counted-names _ _ counted))

pub returns : goal.returns
returns c =
    let opened : ValidArena c.args.arena.now =
    passed-opened _ [] (sym c.in_ok-ask_graph.ensures) in
    let counted : count_prims c.args.path.now ≡ Some c.in-Some.prims =
    sym c.prim_count-read.ensures ∙ c.in-Some.is in
    let formed : well_formed c.args.path.now ≡ true =
    sym (counted-well-formed _ _ counted) in
    let bs = c.args.arena.now in
    let node = ap (λ (r : Node). node_of r c.args.path.now) c.start_record.ensures
    ∙ start-node c.args.stack c.args.layer c.in-Some.prims c.args.path.now (counted-names _ _ counted) in
    start-done bs c.args.stack c.args.layer c.args.path.now opened (sym c.count.ensures ∙ c.if-count-ne0.false) _ formed
    (c.append_node.ensures ∙ ap (λ (y : model.Node). encode (with_node (decode bs) y) bs) node)

pub returns-in_err-ask_graph : goal.returns-in_err-ask_graph
returns-in_err-ask_graph c =
    let p = err_from_is_err_and c.from_residual.result c.from_residual.ensures.1 in
    rw (p.1, p.2) (
    start-refused _ _ _ _ c.in_err-ask_graph.field-0.0 c.in_err-ask_graph.ensures)
