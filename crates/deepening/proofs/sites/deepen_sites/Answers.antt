-- `sites::deepen_sites` meets its contract. The invariant of its loop: the sites of the first n
-- nodes are stored. Assumes nothing.
use mathlib.Core.Path.{sym, ap, subst, ◌∙◌}
use mathlib.Core.List.{List}
use Prim.Native.Nat.{ℕ}
use Rattle.model.specs.Arena.{node_in}
use Rattle.model.specs.Deepening.{deepened}
use Rattle.deepening.specs.Deepened.{CanJoin, site_stored}
use Rattle.deepening.proofs.DeepenedSites.{join-next, sites-next}
use Rattle.deepening.proofs.sites.deepen_sites.Goals as goal

pub deepen_site-requires : goal.deepen_site-requires
deepen_site-requires c =
    subst (λ (bs : List ℕ). CanJoin bs c.args.name.now c.loop-n.n) (sym c.loop-n.invariant)
    (join-next c.args.arena.now c.args.name.now c.args.count c.requires c.loop-n.n c.loop-n-test.true)

pub loop-n-preserved : goal.loop-n-preserved
loop-n-preserved c =
    c.deepen_site.ensures
    ∙ ap (λ (bs : List ℕ). site_stored c.loop-n.n (deepened c.args.name.now (node_in bs c.loop-n.n)) bs) c.loop-n.invariant
    ∙ sites-next c.args.arena.now c.args.name.now c.args.count c.requires c.loop-n.n c.loop-n-test.true
