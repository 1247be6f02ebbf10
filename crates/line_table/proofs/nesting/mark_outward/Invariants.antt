-- `mark_outward` meets its contract. The loop's invariant is `Outgoing`. The measure is `x`: an
-- outward step goes to a lower node. Assumes nothing.
use Rattle.view.specs.View.{view_in}
use Rattle.line_table.proofs.NestingLaws.{Outgoing}
use Rattle.line_table.proofs.nesting.mark_outward.Given as goal

abbrev pub invariant-loop-x : goal.invariant-loop-x
invariant-loop-x l = Outgoing (view_in l.arena) l.count l.r l.x l.row

abbrev pub decreases-loop-x : goal.decreases-loop-x
decreases-loop-x l = l.x
