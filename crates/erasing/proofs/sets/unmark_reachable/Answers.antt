-- `unmark_reachable` meets its contract. The invariant of its loop: the nodes from `n` on have
-- spared their links. Assumes nothing.
use native.Mathlib.Omega.{arith}
use mathlib.Core.Path.{◌≡◌, sym, subst, ◌∙◌}
use mathlib.Core.List.{List}
use Prim.Native.Nat.{ℕ, ◌-◌, ◌≤◌, ◌<◌}
use lib.ListN.{length-set}
use Rattle.model.specs.Graph.{size}
use Rattle.model.specs.Arena.{count_in, decode}
use Rattle.model.specs.ArenaCalls.{ValidArena, ValidNode}
use Rattle.arena.proofs.HeldArenas.{held}
use Rattle.arena.proofs.ReadNodes.{sizes, has-slot}
use Rattle.view.specs.View.{view_in}
use Rattle.view.proofs.ViewLaws.{readable-parent, readable-origin}
use Rattle.erasing.proofs.SpareLaws.{Sparing, sparing-start, sparing-kept, sparing-gone, sparing-ends}
use Rattle.erasing.proofs.sets.unmark_reachable.Goals as goal

-- the nodes have bytes in a set
fits : (bs : List ℕ) → ValidArena bs → size (decode bs) ≤ 1024
fits bs opened = omega (arith, sizes bs opened, (held bs opened.holds).few)

-- node n - 1 and its links have bytes in a set
module _ {bs : List ℕ} {count n : ℕ} (valid : ValidArena bs × (count ≡ count_in bs)) (some : 1 < n) (high : n ≤ count) where
  readable : ValidNode bs (n - 1)
  readable = record { opened = valid.0; below = omega (arith, valid.1) }

  links-within : {p o : ℕ} → p ≡ (view_in bs).parent (n - 1) → o ≡ (view_in bs).origin (n - 1) → (p < 1024) × (o < 1024)
  links-within e f = (
    omega (arith, (has-slot _ _ (readable-parent _ _ readable (omega arith))).within),
    omega (arith, (has-slot _ _ (readable-origin _ _ readable (omega arith))).within),
  )

pub loop-n-init : goal.loop-n-init
loop-n-init c =
    let bs = c.args.arena.now in
    let opened = c.requires.valid_arena.0 in
    let all : size (decode bs) ≡ c.args.count = sizes bs opened ∙ sym c.requires.valid_arena.1 in
    let start = sparing-start (decode bs) (fits bs opened) c.args.set.now c.requires.marked_below in
    subst (λ (n : ℕ). Sparing (decode bs).nodes n c.args.set.now) all start

pub bounds-set-n : goal.bounds-set-n
bounds-set-n c =
    omega (arith, c.loop-n.invariant.long, (has-slot _ _ (readable c.requires.valid_arena c.loop-n-test.true c.loop-n.auto.n)).within)

pub bounds-set-parent : goal.bounds-set-parent
bounds-set-parent c =
    let within = links-within c.requires.valid_arena c.loop-n-test.true c.loop-n.auto.n c.parent-parent.ensures c.origin-origin.ensures in
    omega (arith, within, c.loop-n.invariant.long)

pub bounds-set-origin : goal.bounds-set-origin
bounds-set-origin c =
    let within = links-within c.requires.valid_arena c.loop-n-test.true c.loop-n.auto.n c.parent-parent.ensures c.origin-origin.ensures in
    omega (arith, within, c.loop-n.invariant.long, length-set c.loop-n.set c.parent-parent.result 0)

pub loop-n-preserved-then-set-n-eq0 : goal.loop-n-preserved-then-set-n-eq0
loop-n-preserved-then-set-n-eq0 c =
    let within = links-within c.requires.valid_arena c.loop-n-test.true c.loop-n.auto.n c.parent-parent.ensures c.origin-origin.ensures in
    sparing-kept _ c.loop-n.n c.loop-n.set c.loop-n.invariant c.loop-n-test.true _ _ c.parent-parent.ensures c.origin-origin.ensures within.0 within.1
    c.if-set-n-eq0.true

pub loop-n-preserved : goal.loop-n-preserved
loop-n-preserved c = sparing-gone _ c.loop-n.n c.loop-n.set c.loop-n.invariant c.loop-n-test.true c.if-set-n-eq0.false

pub returns : goal.returns
returns c =
    sparing-ends _ (fits c.args.arena.now c.requires.valid_arena.0) c.loop-n.n c.loop-n.set c.loop-n.invariant c.loop-n-test.false
