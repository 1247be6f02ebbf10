-- `add_child` meets its contract: the questions in their order, and then the node. Assumes nothing.
use Rattle.std.proofs.lemmas.Result.{err_from_is_err_and}
use mathlib.Core.Path.{◌≡◌, refl, sym, ap, ◌∙◌}
use Prim.Native.Nat.{◌<◌}
use native.Mathlib.Omega.{arith}
use Rattle.model.specs.Path.{prim_count}
use Rattle.model.specs.Refusals.{refusal}
use Rattle.model.specs.Node as model
use Rattle.model.specs.Graph.{with_node}
use Rattle.arena.specs.declared.Node.{Node}
use Rattle.arena.specs.Slot.{node_of}
use Rattle.model.specs.Arena.{count_in, decode, encode}
use Rattle.model.specs.ArenaCalls.{ValidArena}
use Rattle.validate.proofs.AskingLaws.{some-node}
use Rattle.nodes.specs.Describing.{desc_of, add_questions}
use Rattle.nodes.proofs.AddingLaws.{parent-slot, can-add, short-path, added-node, add-refused-first, add-refused, add_done}
use Rattle.nodes.proofs.calls.add_child.Goals as goal

pub count-count-requires : goal.count-count-requires
count-count-requires c =
    let has-node : let bs = c.args.arena.now in ValidArena bs × (0 < count_in bs) =
    some-node _ (sym c.in_ok-ask_node_zero.ensures) in
    has-node.0.whole

pub check_desc-requires : goal.check_desc-requires
check_desc-requires c =
    let has-node : let bs = c.args.arena.now in ValidArena bs × (0 < count_in bs) =
    some-node _ (sym c.in_ok-ask_node_zero.ensures) in
    let there = has-node in
    (there.0, c.count-count.ensures, omega (arith, there.1, c.count-count.ensures))

pub added_record-node-requires : goal.added_record-node-requires
added_record-node-requires c =
    let has-node : let bs = c.args.arena.now in ValidArena bs × (0 < count_in bs) =
    some-node _ (sym c.in_ok-ask_node_zero.ensures) in
    let passes : refusal (add_questions (decode c.args.arena.now) (desc_of c.args.desc c.args.path.now)) ≡ 0 =
    sym c.in_ok-prims.ensures.refused in
    let there = has-node in
    record {
      valid_arena = there.0;
      has_slot_in = parent-slot c.args.arena.now there.0 c.args.desc c.args.path.now there.1 passes;
      path_length_bound = short-path c.args.arena.now there.0 c.args.desc c.args.path.now there.1 passes;
    }

pub append_node-requires : goal.append_node-requires
append_node-requires c =
    let has-node : let bs = c.args.arena.now in ValidArena bs × (0 < count_in bs) =
    some-node _ (sym c.in_ok-ask_node_zero.ensures) in
    let passes : refusal (add_questions (decode c.args.arena.now) (desc_of c.args.desc c.args.path.now)) ≡ 0 =
    sym c.in_ok-prims.ensures.refused in
    let named : c.in_ok-prims.prims ≡ prim_count c.args.path.now =
    c.in_ok-prims.ensures.prims refl in
    let there = has-node in
    rw c.added_record-node.ensures
    (can-add c.args.arena.now there.0 c.args.desc c.args.path.now there.1 _ _ passes named
    c.count-count.ensures)

pub returns : goal.returns
returns c =
    let has-node : let bs = c.args.arena.now in ValidArena bs × (0 < count_in bs) =
    some-node _ (sym c.in_ok-ask_node_zero.ensures) in
    let passes : refusal (add_questions (decode c.args.arena.now) (desc_of c.args.desc c.args.path.now)) ≡ 0 =
    sym c.in_ok-prims.ensures.refused in
    let named : c.in_ok-prims.prims ≡ prim_count c.args.path.now =
    c.in_ok-prims.ensures.prims refl in
    let bs = c.args.arena.now in
    let there = has-node in
    let node = ap (λ (r : Node). node_of r c.args.path.now) c.added_record-node.ensures
    ∙ added-node bs there.0 c.args.desc c.args.path.now there.1 c.in_ok-prims.prims passes named in
    add_done bs (desc_of c.args.desc c.args.path.now) there.0 there.1 _ _ passes c.count-count.ensures
    (c.append_node.ensures ∙ ap (λ (y : model.Node). encode (with_node (decode bs) y) bs) node)

pub returns-in_err-prims : goal.returns-in_err-prims
returns-in_err-prims c =
    let has-node : let bs = c.args.arena.now in ValidArena bs × (0 < count_in bs) =
    some-node _ (sym c.in_ok-ask_node_zero.ensures) in
    let p = err_from_is_err_and c.from_residual-in_err-prims.result c.from_residual-in_err-prims.ensures.1 in
    rw (p.1, p.2) (
    add-refused c.args.arena.now (desc_of c.args.desc c.args.path.now) has-node.0 has-node.1 _
    c.in_err-prims.ensures.refused)

pub returns-in_err-ask_node_zero : goal.returns-in_err-ask_node_zero
returns-in_err-ask_node_zero c =
    let p = err_from_is_err_and c.from_residual.result c.from_residual.ensures.1 in
    rw (p.1, p.2) (
    add-refused-first c.args.arena.now (desc_of c.args.desc c.args.path.now) c.in_err-ask_node_zero.field-0.0
    c.in_err-ask_node_zero.ensures)
