-- `link_lists` meets its contract. The invariant of its loop: the parents before `parent` have
-- their links, and `start` is where the next part begins. Assumes nothing.
use Rattle.child_lists.proofs.LinkLaws.{LinkingAll}
use Rattle.child_lists.proofs.links.link_lists.Given as goal

abbrev pub invariant-loop-parent : goal.invariant-loop-parent
invariant-loop-parent l = LinkingAll l.sorted l.ends l.initial.next l.parent l.start l.first l.last l.next
