-- `set_restriction_depth` meets its contract: where questions 1 to 4 pass, the depth is stored.
-- Assumes nothing.
use Rattle.std.proofs.lemmas.Result.{err_from_is_err_and}
use mathlib.Core.Path.{sym}
use Rattle.model.specs.ArenaCalls.{ValidNode}
use Rattle.laws.proofs.BigEndianLaws.{Bytes}
use Rattle.laws.proofs.StoredLaws.{bytes-by-place}
use Rattle.arena.proofs.ReadNodes.{readable, has-slot}
use Rattle.nodes.proofs.SettingLaws.{restriction-refused, restriction-done}
use Rattle.nodes.proofs.setting.set_restriction_depth.Goals as goal

pub write_restriction-requires : goal.write_restriction-requires
write_restriction-requires c =
    let valid : ValidNode c.args.arena.now c.args.n =
    readable _ _ (sym c.in_ok-ask_node.ensures) in
    has-slot _ _ valid

pub returns : goal.returns
returns c =
    let bytes : Bytes c.args.arena.now =
    bytes-by-place c.args.arena.now (λ k. (c.slice_known-1.given k).fits) in
    let valid : ValidNode c.args.arena.now c.args.n =
    readable _ _ (sym c.in_ok-ask_node.ensures) in
    restriction-done _ _ _ bytes valid _
    c.write_restriction.ensures

pub returns-in_err-ask_node : goal.returns-in_err-ask_node
returns-in_err-ask_node c =
    let p = err_from_is_err_and c.from_residual.result c.from_residual.ensures.1 in
    rw (p.1, p.2) (
    restriction-refused _ _ _ c.in_err-ask_node.field-0.0
    c.in_err-ask_node.ensures)
