-- `lowest` meets its contract. The loop's invariant: the lowest from `n` on is the lowest of all.
-- Assumes nothing.
use mathlib.Core.Path.{◌≡◌}
use Rattle.model.specs.Arena.{decode}
use Rattle.model.specs.Graph.{node_using_site}
use Rattle.nodes.proofs.SiteSearch.{lowest_from}
use Rattle.nodes.proofs.calls.lowest.Given as goal

abbrev pub invariant-loop-n : goal.invariant-loop-n
invariant-loop-n l = lowest_from l.arena l.stack l.path l.n ≡ node_using_site l.stack l.path (decode l.arena)
