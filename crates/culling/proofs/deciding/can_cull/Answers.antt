-- `can_cull` meets its contract: the tests come in the definition's order. Assumes nothing.
use mathlib.Core.Path.{◌≡◌, sym, ap, ◌∙◌}
use Rattle.model.specs.Node.{culled_flag, has_flag, is_culled}
use Rattle.model.specs.Graph.{node_at}
use Rattle.model.specs.Arena.{decode}
use Rattle.arena.proofs.ReadNodes.{has-slot}
use Rattle.view.proofs.ViewLaws.{seen}
use Rattle.culling.specs.Culled.{can_cull_under}
use Rattle.culling.proofs.deciding.can_cull.Goals as goal

pub flags-requires : goal.flags-requires
flags-requires c =
    has-slot _ _ c.requires.readable

pub returns-then-is_culled : goal.returns-then-is_culled
unfolding can_cull_under
returns-then-is_culled c =
    let culled-read : is_culled (node_at (decode c.args.arena.now).nodes c.args.n) ≡ c.is_culled.result =
    ap (has_flag culled_flag) ((seen _ _ c.requires.readable).flags ∙ sym c.flags.ensures) ∙ sym c.is_culled.ensures in
    rw (culled-read ∙ c.if-is_culled.true)

pub returns-then-is_kept : goal.returns-then-is_kept
unfolding can_cull_under
returns-then-is_kept c =
    let culled-read : is_culled (node_at (decode c.args.arena.now).nodes c.args.n) ≡ c.is_culled.result =
    ap (has_flag culled_flag) ((seen _ _ c.requires.readable).flags ∙ sym c.flags.ensures) ∙ sym c.is_culled.ensures in
    rw (culled-read ∙ c.if-is_culled.false, sym c.is_kept.ensures ∙ c.if-is_kept.true)

pub returns : goal.returns
unfolding can_cull_under
returns c =
    let culled-read : is_culled (node_at (decode c.args.arena.now).nodes c.args.n) ≡ c.is_culled.result =
    ap (has_flag culled_flag) ((seen _ _ c.requires.readable).flags ∙ sym c.flags.ensures) ∙ sym c.is_culled.ensures in
    rw (culled-read ∙ c.if-is_culled.false, sym c.is_kept.ensures ∙ c.if-is_kept.false)
