-- `intro_path` meets its contract: `/` of node 0, else the front part of the parent's path. Assumes
-- nothing.
use Rattle.std.proofs.lemmas.Result.{err_from_is_err_and}
use mathlib.Core.Path.{◌≡◌, sym, ◌∙◌}
use lib.ListN.{length}
use Rattle.model.specs.Refusals.{refusal}
use Rattle.model.specs.Calls.{reads_node}
use Rattle.model.specs.Arena.{decode}
use Rattle.model.specs.ArenaCalls.{ValidNode, ask_path}
use native.Mathlib.Omega.{arith}
use Rattle.laws.proofs.ArenaCallLaws.{put_refused, put-done}
use Rattle.arena.proofs.ReadNodes.{has-path}
use Rattle.view.proofs.ViewLaws.{readable-parent}
use Rattle.nodes.proofs.PathCalls.{path-asked, short-intro, root-introduced, introduced}
use Rattle.nodes.proofs.paths.intro_path.Goals as goal

pub put-requires : goal.put-requires
put-requires c =
    let asked : refusal (ask_path c.args.arena.now c.args.buffer.now (reads_node (decode c.args.arena.now) c.args.n)) ≡ 0 =
    sym c.in_ok-ask.ensures in
    let there : ValidNode c.args.arena.now c.args.n × (length c.args.buffer.now ≡ 255) =
    path-asked c.args.arena.now c.args.buffer.now c.args.n asked in
    (omega arith, there.1)

pub returns-then-n-eq0 : goal.returns-then-n-eq0
returns-then-n-eq0 c =
    let asked : refusal (ask_path c.args.arena.now c.args.buffer.now (reads_node (decode c.args.arena.now) c.args.n)) ≡ 0 =
    sym c.in_ok-ask.ensures in
    put-done _ _ _ _ _ _ asked (root-introduced _ _ c.if-n-eq0.true) c.put.ensures.result_value
    c.put.ensures.buffer_after

pub depth_below-depth-requires : goal.depth_below-depth-requires
depth_below-depth-requires c =
    let asked : refusal (ask_path c.args.arena.now c.args.buffer.now (reads_node (decode c.args.arena.now) c.args.n)) ≡ 0 =
    sym c.in_ok-ask.ensures in
    let there : ValidNode c.args.arena.now c.args.n × (length c.args.buffer.now ≡ 255) =
    path-asked c.args.arena.now c.args.buffer.now c.args.n asked in
    there.0

pub parent-parent-requires : goal.parent-parent-requires
parent-parent-requires c =
    let asked : refusal (ask_path c.args.arena.now c.args.buffer.now (reads_node (decode c.args.arena.now) c.args.n)) ≡ 0 =
    sym c.in_ok-ask.ensures in
    let there : ValidNode c.args.arena.now c.args.n × (length c.args.buffer.now ≡ 255) =
    path-asked c.args.arena.now c.args.buffer.now c.args.n asked in
    there.0

pub path-requires : goal.path-requires
path-requires c =
    let asked : refusal (ask_path c.args.arena.now c.args.buffer.now (reads_node (decode c.args.arena.now) c.args.n)) ≡ 0 =
    sym c.in_ok-ask.ensures in
    let there : ValidNode c.args.arena.now c.args.n × (length c.args.buffer.now ≡ 255) =
    path-asked c.args.arena.now c.args.buffer.now c.args.n asked in
    let parent-there : ValidNode c.args.arena.now c.parent-parent.result =
    rw c.parent-parent.ensures (readable-parent _ _ there.0 (omega (arith, c.if-n-eq0.false))) in
    has-path _ _ parent-there

pub put-requires-2 : goal.put-requires-2
put-requires-2 c =
    let asked : refusal (ask_path c.args.arena.now c.args.buffer.now (reads_node (decode c.args.arena.now) c.args.n)) ≡ 0 =
    sym c.in_ok-ask.ensures in
    let there : ValidNode c.args.arena.now c.args.n × (length c.args.buffer.now ≡ 255) =
    path-asked c.args.arena.now c.args.buffer.now c.args.n asked in
    let parent-there : ValidNode c.args.arena.now c.parent-parent.result =
    rw c.parent-parent.ensures (readable-parent _ _ there.0 (omega (arith, c.if-n-eq0.false))) in (
      rw (c.path_at_intro_depth.ensures, c.path.ensures) (short-intro _ _ parent-there _),
      there.1,
    )

pub returns : goal.returns
returns c =
    let asked : refusal (ask_path c.args.arena.now c.args.buffer.now (reads_node (decode c.args.arena.now) c.args.n)) ≡ 0 =
    sym c.in_ok-ask.ensures in
    let there : ValidNode c.args.arena.now c.args.n × (length c.args.buffer.now ≡ 255) =
    path-asked c.args.arena.now c.args.buffer.now c.args.n asked in
    put-done _ _ _ _ _ _ asked
    (c.path_at_intro_depth.ensures
    ∙ introduced _ _ there.0 c.if-n-eq0.false _ _ _ c.depth_below-depth.ensures.0
    c.parent-parent.ensures c.path.ensures)
    c.put-2.ensures.result_value c.put-2.ensures.buffer_after

pub returns-in_err-ask : goal.returns-in_err-ask
returns-in_err-ask c =
    let p = err_from_is_err_and c.from_residual.result c.from_residual.ensures.1 in
    rw (p.1, p.2) (
    put_refused _ _ _ c.in_err-ask.field-0.0 c.in_err-ask.ensures)
