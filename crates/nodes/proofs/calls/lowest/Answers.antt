-- `lowest` meets its contract. The loop's invariant: the lowest from `n` on is the lowest of all.
-- Assumes nothing.
use native.Mathlib.Omega.{arith}
use mathlib.Core.Path.{sym, ◌∙◌}
use Rattle.nodes.proofs.SiteSearch.{lowest-starts, lowest-steps}
use Rattle.nodes.proofs.calls.lowest.Goals as goal

pub loop-n-init : goal.loop-n-init
loop-n-init c =
    lowest-starts _ _ _

pub loop-n-preserved : goal.loop-n-preserved
loop-n-preserved c =
    let here = lowest-steps c.args.arena.now c.args.stack c.args.path.now c.loop-n.n (omega (arith, c.requires.1, c.loop-n-test.true)) in
    (rw (sym c.uses.ensures ∙ c.if-uses.false) at (sym here)) ∙ c.loop-n.invariant
