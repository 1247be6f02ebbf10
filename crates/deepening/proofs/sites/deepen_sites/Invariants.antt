-- `sites::deepen_sites` meets its contract. The invariant of its loop: the sites of the first n
-- nodes are stored. Assumes nothing.
use mathlib.Core.Path.{◌≡◌}
use Rattle.deepening.specs.Deepened.{sites_deepened}
use Rattle.deepening.proofs.sites.deepen_sites.Given as goal

abbrev pub invariant-loop-n : goal.invariant-loop-n
invariant-loop-n l = l.arena ≡ sites_deepened l.name l.n l.initial.arena
