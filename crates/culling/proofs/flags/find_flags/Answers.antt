-- `find_flags` meets its contract. The invariant of its loop: the nodes from n on are decided.
-- Assumes nothing.
use mathlib.Core.Path.{sym, ap, ◌∙◌}
use native.Mathlib.Omega.{arith}
use Rattle.laws.proofs.BigEndianLaws.{Bytes}
use Rattle.laws.proofs.StoredLaws.{bytes-by-place}
use Rattle.model.specs.Node.{culled_flag, with_flag}
use Rattle.arena.proofs.ReadNodes.{has-slot}
use Rattle.view.proofs.ViewLaws.{seen}
use Rattle.culling.proofs.DecidingLaws.{next-stands, next-short, stands, parent-below, step-culled, step_left, deciding-end}
use Rattle.culling.proofs.flags.find_flags.Goals as goal

pub flags-old-requires : goal.flags-old-requires
flags-old-requires c =
    has-slot _ _ (next-stands c.requires.rooted c.loop-n.invariant c.loop-n-test.true).readable

pub bounds-unculled-i : goal.bounds-unculled-i
bounds-unculled-i c =
    omega (arith, next-short c.requires.rooted c.loop-n.invariant c.loop-n-test.true, c.loop-n.invariant.unculled-long)

pub bounds-flags-i : goal.bounds-flags-i
bounds-flags-i c =
    omega (arith, next-short c.requires.rooted c.loop-n.invariant c.loop-n-test.true, c.loop-n.invariant.flags_long)

pub loop-n-preserved-then-can_cull : goal.loop-n-preserved-then-can_cull
loop-n-preserved-then-can_cull c =
    let bytes : Bytes c.args.arena.now = bytes-by-place c.args.arena.now (λ k. (c.type_inv.arena k).fits) in
    let stands = next-stands c.requires.rooted c.loop-n.invariant c.loop-n-test.true in
    step-culled _ bytes _ _ c.requires.rooted _ _ _ c.loop-n.invariant c.loop-n-test.true
    (sym c.can_cull.ensures ∙ c.if-can_cull.true) _
    (c.with_culled.ensures ∙ ap (with_flag culled_flag) (c.flags-old.ensures ∙ sym (seen _ _ stands.readable).flags))

pub bounds-flags-i-else-can_cull : goal.bounds-flags-i-else-can_cull
bounds-flags-i-else-can_cull c =
    omega (arith, next-short c.requires.rooted c.loop-n.invariant c.loop-n-test.true, c.loop-n.invariant.flags_long)

pub bounds-unculled-parent : goal.bounds-unculled-parent
bounds-unculled-parent c =
    let bytes : Bytes c.args.arena.now = bytes-by-place c.args.arena.now (λ k. (c.type_inv.arena k).fits) in
    omega (
      arith,
      next-short c.requires.rooted c.loop-n.invariant c.loop-n-test.true,
      c.loop-n.invariant.unculled-long,
      c.parent.ensures,
      parent-below _ bytes _ _ c.requires.rooted _ _ _ c.loop-n.invariant c.loop-n-test.true,
    )

pub loop-n-preserved : goal.loop-n-preserved
loop-n-preserved c =
    let bytes : Bytes c.args.arena.now = bytes-by-place c.args.arena.now (λ k. (c.type_inv.arena k).fits) in
    let stands = next-stands c.requires.rooted c.loop-n.invariant c.loop-n-test.true in
    step_left _ bytes _ _ c.requires.rooted _ _ _ c.loop-n.invariant c.loop-n-test.true
    (sym c.can_cull.ensures ∙ c.if-can_cull.false) _
    (c.flags-old.ensures ∙ sym (seen _ _ stands.readable).flags) _ c.parent.ensures

pub returns : goal.returns
returns c =
    let bytes : Bytes c.args.arena.now = bytes-by-place c.args.arena.now (λ k. (c.type_inv.arena k).fits) in
    let rooted = c.requires.rooted in
    let first = stands _ bytes _ _ rooted 0 (omega (arith, rooted.counted, rooted.some-node)) in
    deciding-end _ bytes _ _ rooted _ _ _ _ c.loop-n.invariant (omega arith)
    (c.flags.ensures ∙ sym (seen _ _ first.readable).flags)
