-- `write_links` meets its contract. The invariant of its loop: the links of the first n nodes are
-- stored. Assumes nothing.
use mathlib.Core.Path.{◌≡◌}
use Rattle.child_lists.specs.Links.{links_written}
use Rattle.child_lists.proofs.links.write_links.Given as goal

abbrev pub invariant-loop-n : goal.invariant-loop-n
invariant-loop-n l = l.arena ≡ links_written l.first l.last l.next l.n l.initial.arena
