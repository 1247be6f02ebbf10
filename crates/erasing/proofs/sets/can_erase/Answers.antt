-- `can_erase` meets its contract. The invariant of its loop: the nodes below `n` pass. Assumes
-- nothing.
use native.Mathlib.Omega.{arith}
use mathlib.Core.Path.{◌≡◌, sym, ◌∙◌}
use mathlib.Core.Bool.{true}
use borrow.Author.Count.{below_more}
use Rattle.model.specs.Arena.{decode}
use Rattle.model.specs.Erasing.{spares_one}
use Rattle.arena.proofs.ReadNodes.{sizes}
use Rattle.erasing.proofs.AcceptLaws.{accepting-fails, accepting-ends}
use Rattle.erasing.proofs.sets.can_erase.Goals as goal

pub returns-then-not-spares_one : goal.returns-then-not-spares_one
returns-then-not-spares_one c =
    accepting-fails _ _ c.loop-n.n
    (omega (arith, c.loop-n-test, c.count-count.ensures, sizes c.args.arena.now c.requires.valid_arena))
    (sym c.spares_one.ensures ∙ c.if-not-spares_one.true)

pub loop-n-preserved : goal.loop-n-preserved
loop-n-preserved c =
    below_more (λ k. spares_one (decode c.args.arena.now) c.args.set.now k ≡ true) c.loop-n.n c.loop-n.invariant (sym c.spares_one.ensures ∙ c.if-not-spares_one.false)

pub returns : goal.returns
returns c =
    accepting-ends _ _ c.loop-n.n c.loop-n.invariant
    (omega (arith, c.loop-n-test, c.count-count.ensures, sizes c.args.arena.now c.requires.valid_arena))
