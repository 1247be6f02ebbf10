-- `mark` meets its contract: where questions 1 to 4 and 6 pass, the flags joined are stored.
-- Assumes nothing.
use Rattle.std.proofs.lemmas.Result.{err_from_is_err_and}
use mathlib.Core.Path.{◌≡◌, sym, ap, ◌∙◌}
use borrow.Author.Tests.{not-true, not-false}
use Rattle.model.specs.Setting.{with_flags, may_mark}
use Rattle.model.specs.ArenaCalls.{ValidNode}
use Rattle.laws.proofs.BigEndianLaws.{Bytes}
use Rattle.laws.proofs.StoredLaws.{bytes-by-place}
use Rattle.arena.specs.Slot.{arc_in}
use Rattle.arena.proofs.ReadNodes.{readable, has-slot}
use Rattle.nodes.proofs.SettingLaws.{mark-refused-first, mark-refused, mark-done}
use Rattle.nodes.proofs.setting.mark.Goals as goal

pub arc-requires : goal.arc-requires
arc-requires c =
    let valid : ValidNode c.args.arena.now c.args.n =
    readable _ _ (sym c.in_ok-ask_node.ensures) in
    has-slot _ _ valid

pub returns-then-not-may_mark : goal.returns-then-not-may_mark
returns-then-not-may_mark c =
    let valid : ValidNode c.args.arena.now c.args.n =
    readable _ _ (sym c.in_ok-ask_node.ensures) in
    let may : may_mark c.args.flags (arc_in c.args.arena.now c.args.n) ≡ c.may_mark.result =
    sym (c.may_mark.ensures ∙ ap (may_mark c.args.flags) c.arc.ensures) in
    mark-refused _ _ _ valid (may ∙ not-true _ c.if-not-may_mark.true-raw)

pub flags-requires : goal.flags-requires
flags-requires c =
    let valid : ValidNode c.args.arena.now c.args.n =
    readable _ _ (sym c.in_ok-ask_node.ensures) in
    has-slot _ _ valid

pub write_flags-requires : goal.write_flags-requires
write_flags-requires c =
    let valid : ValidNode c.args.arena.now c.args.n =
    readable _ _ (sym c.in_ok-ask_node.ensures) in
    has-slot _ _ valid

pub returns : goal.returns
returns c =
    let bytes : Bytes c.args.arena.now =
    bytes-by-place c.args.arena.now (λ k. (c.slice_known-1.given k).fits) in
    let valid : ValidNode c.args.arena.now c.args.n =
    readable _ _ (sym c.in_ok-ask_node.ensures) in
    let may : may_mark c.args.flags (arc_in c.args.arena.now c.args.n) ≡ c.may_mark.result =
    sym (c.may_mark.ensures ∙ ap (may_mark c.args.flags) c.arc.ensures) in
    let given = c.args.flags in
    mark-done _ _ _ bytes valid
    (may ∙ not-false _ c.if-not-may_mark.false-raw) _
    (c.with_flags-joined.ensures ∙ ap (with_flags given) c.flags.ensures) _
    c.write_flags.ensures

pub returns-in_err-ask_node : goal.returns-in_err-ask_node
returns-in_err-ask_node c =
    let p = err_from_is_err_and c.from_residual.result c.from_residual.ensures.1 in
    rw (p.1, p.2) (
    mark-refused-first _ _ _ c.in_err-ask_node.field-0.0
    c.in_err-ask_node.ensures)
