-- `depth_below` meets its contract. Assumes nothing.
use mathlib.Core.Path.{sym, ap, ◌∙◌}
use native.Mathlib.Omega.{arith}
use Prim.Native.Nat.{ℕ, ◌-◌}
use Rattle.model.specs.Arena.{prim_count_in}
use Rattle.arena.specs.Slot.{parent_in}
use Rattle.model.specs.ArenaCalls.{ValidNode}
use Rattle.arena.proofs.ReadNodes.{has-slot, parent-read}
use Rattle.view.proofs.ViewLaws.{depth-read, depth-of-0}
use Rattle.view.proofs.sites.depth_below.Goals as goal

pub returns-then-n-eq0 : goal.returns-then-n-eq0
returns-then-n-eq0 c =
    (sym (depth-of-0 _ _ c.if-n-eq0.true), omega arith)

pub parent-parent-requires : goal.parent-parent-requires
parent-parent-requires c =
    has-slot _ _ c.requires

pub prim_count-requires : goal.prim_count-requires
prim_count-requires c =
    let parent : ValidNode c.args.arena.now c.parent-parent.result =
    rw c.parent-parent.ensures (parent-read _ _ c.requires (omega arith)) in
    has-slot _ _ parent

pub depth-requires : goal.depth-requires
depth-requires c =
    has-slot _ _ c.requires

pub returns : goal.returns
returns c =
    let bs = c.args.arena.now in
    let n = c.args.n in
    let prims = c.prim_count.ensures ∙ ap (prim_count_in bs) c.parent-parent.ensures in (
      c.less.ensures.0 ∙ ap (λ (p : ℕ). p - c.depth.result) prims ∙ ap (λ (d : ℕ). prim_count_in bs (parent_in bs n) - d) c.depth.ensures
          ∙ sym (depth-read bs n c.requires (omega (arith, c.if-n-eq0.false))),
      c.less.ensures.1,
    )
