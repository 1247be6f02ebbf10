-- `mark_outward` meets its contract. The loop's invariant is `Outgoing`. The measure is `x`: an
-- outward step goes to a lower node. Assumes nothing.
use native.Mathlib.Omega.{arith}
use Rattle.laws.proofs.StrengthWalks.{outward-lower}
use Rattle.view.proofs.WalkLoops.{positive}
use Rattle.line_table.proofs.NestingLaws.{outward-cell, lawful, outgoing-start, outgoing-step, outgoing-end}
use Rattle.line_table.proofs.nesting.mark_outward.Goals as goal

pub loop-x-init : goal.loop-x-init
loop-x-init c =
    outgoing-start c.requires.r_lt_count.0 c.requires.r_lt_count.1

pub loop-x-smaller : goal.loop-x-smaller
loop-x-smaller c =
    let w = c.loop-x.invariant in
    let some = positive _ c.loop-x-test.true in
    let out = outward-cell c.requires.valid_arena.1 some (omega (arith, c.requires.valid_arena.2, w.within)) in
    omega (arith, out, outward-lower (lawful c.requires.valid_arena.0 c.requires.valid_arena.2) c.loop-x.x some w.within)

pub loop-x-preserved : goal.loop-x-preserved
loop-x-preserved c =
    let w = c.loop-x.invariant in
    let some = positive _ c.loop-x-test.true in
    let out = outward-cell c.requires.valid_arena.1 some (omega (arith, c.requires.valid_arena.2, w.within)) in
    outgoing-step w (lawful c.requires.valid_arena.0 c.requires.valid_arena.2) some out

pub returns : goal.returns
returns c =
    outgoing-end c.loop-x.invariant c.loop-x-test.false
