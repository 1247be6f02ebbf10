-- `mark_inward` meets its contract. The loop's invariant: each node below `m` is marked if r is met
-- from it. Assumes nothing.
use Rattle.view.specs.View.{view_in}
use Rattle.line_table.specs.LineTable.{Inward}
use Rattle.line_table.proofs.nesting.mark_inward.Given as goal

abbrev pub invariant-loop-m : goal.invariant-loop-m
invariant-loop-m l = Inward (view_in l.arena) l.m l.r l.row
