-- `walking::write_walk` meets its contract. The invariant of its loop: `at - 1` steps lead to x, all
-- nodes up to it are stored, and what is kept is true. Assumes nothing.
use mathlib.Core.Path.{◌≡◌, ◌∙◌}
use Prim.Native.Nat.{◌+◌, ◌-◌}
use native.Mathlib.Omega.{arith}
use Rattle.ordering.specs.Ordering.{Walkable}
use Rattle.ordering.proofs.WayLaws.{walk-begun, walk-ended, walking-climbs, walking-knows, walking-learns, walking-step, walking-end}
use Rattle.ordering.proofs.walking.write_walk.Goals as goal

pub look_ahead-known-requires : goal.look_ahead-known-requires
look_ahead-known-requires c =
    let begun : Walkable c.write_order_entry.new.arena c.args.count =
    walk-begun _ _ c.requires _ c.write_order_entry.ensures in
    let w = c.loop-at.invariant.0 in
    (walking-climbs _ _ begun _ _ _ w, walking-knows _ _ begun _ _ _ w c.loop-at.known c.loop-at.invariant.1)

pub next_of-x-requires : goal.next_of-x-requires
next_of-x-requires c =
    let begun : Walkable c.write_order_entry.new.arena c.args.count =
    walk-begun _ _ c.requires _ c.write_order_entry.ensures in
    (walking-climbs _ _ begun _ _ _ c.loop-at.invariant.0, c.look_ahead-known.ensures)

pub loop-at-preserved : goal.loop-at-preserved
loop-at-preserved c =
    let begun : Walkable c.write_order_entry.new.arena c.args.count =
    walk-begun _ _ c.requires _ c.write_order_entry.ensures in
    let w = c.loop-at.invariant.0 in
    let place : c.loop-at.at - 1 + 1 ≡ c.loop-at.at = omega (arith, c.loop-at.auto.at) in
    let next : c.loop-at.at + 1 - 1 ≡ c.loop-at.at - 1 + 1 = omega (arith, c.loop-at.auto.at) in (
      rw next (walking-step _ _ begun _ _ _ w _ _ (omega (arith, c.loop-at.auto.at, c.loop-at-test.true)) c.next_of-x.ensures
          (rw place c.write_order_entry-in-loop-at.ensures)),
      walking-learns _ _ begun _ _ _ w c.look_ahead-known.result c.look_ahead-known.ensures,
    )

pub returns : goal.returns
returns c =
    let begun : Walkable c.write_order_entry.new.arena c.args.count =
    walk-begun _ _ c.requires _ c.write_order_entry.ensures in
    walking-end _ _ begun _ _ _ c.loop-at.invariant.0 (omega (arith, c.loop-at-test.false, c.requires.some-node))
    ∙ walk-ended _ _ c.requires _ c.write_order_entry.ensures
