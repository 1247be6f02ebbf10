-- `depth_valid` meets its contract: the depth is reached by the parent's prims, or marked. Assumes
-- nothing.
use mathlib.Core.Path.{sym, ap, ◌∙◌}
use Prim.Native.Nat.{ℕ}
use native.Mathlib.Omega.{arith}
use lib.Dec.{eqb}
use Rattle.validate.proofs.ArenaRecords.{depth-of-0, depth-reached, depth-marked}
use Rattle.validate.proofs.graph.depth_valid.Goals as goal

pub returns-then-n-eq0 : goal.returns-then-n-eq0
returns-then-n-eq0 c =
    sym (depth-of-0 _ _ c.if-n-eq0.true)

pub prim_count-requires : goal.prim_count-requires
prim_count-requires c =
    record { whole = c.requires.0.whole; within = omega (arith, c.requires.0.within, c.requires.2 (omega (arith, c.if-n-eq0.false))) }

pub returns-then-depth-prim_count : goal.returns-then-depth-prim_count
returns-then-depth-prim_count c =
    sym (depth-reached c.args.arena.now c.args.n _ _ c.args.parent c.depth.ensures c.prim_count.ensures
    c.requires.1 c.if-depth-prim_count.true)

pub returns : goal.returns
returns c =
    ap (λ (m : ℕ). eqb m 1) c.shallow.ensures
    ∙ sym (depth-marked _ _ _ _ _ c.depth.ensures c.prim_count.ensures
    c.requires.1 c.if-n-eq0.false c.if-depth-prim_count.false)
