-- `mark_inward` meets its contract. The loop's invariant: each node below `m` is marked if r is met
-- from it. Assumes nothing.
use Prim.Native.Nat.{ℕ, ◌≤◌}
use native.Mathlib.Omega.{arith}
use lib.Dec.{eqb}
use lib.ListN.{length, length-set}
use Rattle.line_table.proofs.NestingLaws.{bit_byte, outward-cell, lawful, inward-start, inward-self, inward-falls, inward-step}
use Rattle.line_table.proofs.nesting.mark_inward.Goals.{then-m-r, else-m-r}
use Rattle.line_table.proofs.nesting.mark_inward.Goals as goal

pub loop-m-init : goal.loop-m-init
loop-m-init c =
    inward-start _ _ c.args.row.now (omega arith) (bit_byte (eqb c.args.r 0))

pub bounds-row-table : goal.bounds-row-table
bounds-row-table c =
    let legal = lawful c.requires.valid_arena.0 c.requires.valid_arena.2 in
    let long : c.args.count ≤ length c.loop-m.row = omega (arith, c.loop-m.auto.row, c.requires.r_lt_count.1, length-set {A = ℕ}) in
    let out = outward-cell c.requires.valid_arena.1 c.loop-m.auto.m (omega (arith, c.requires.valid_arena.2)) in
    omega (arith, long, inward-falls c.loop-m.invariant (omega arith) legal c.loop-m.auto.m c.loop-m-test.true out)

pub loop-m-preserved : goal.loop-m-preserved
loop-m-preserved c =
    let legal = lawful c.requires.valid_arena.0 c.requires.valid_arena.2 in
    let long : c.args.count ≤ length c.loop-m.row = omega (arith, c.loop-m.auto.row, c.requires.r_lt_count.1, length-set {A = ℕ}) in
    let out = outward-cell c.requires.valid_arena.1 c.loop-m.auto.m (omega (arith, c.requires.valid_arena.2)) in
    elim c.if-m-r.branch [
      | then-m-r w ↦ inward-self c.loop-m.invariant (omega arith) w.if-m-r.true w.row-is
      | else-m-r w ↦ inward-step c.loop-m.invariant (omega arith) legal c.loop-m.auto.m c.loop-m-test.true out w.if-m-r.false w.row-is
    ]
