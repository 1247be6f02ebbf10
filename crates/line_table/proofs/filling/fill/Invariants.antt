-- `fill` meets its contract. The loop's invariant: the rows below `n` are filled. Assumes nothing.
use Prim.Native.Nat.{◌*◌}
use Rattle.line_table.specs.LineTable.{Filled}
use Rattle.line_table.proofs.filling.fill.Given as goal

abbrev pub invariant-loop-n : goal.invariant-loop-n
invariant-loop-n l = Filled l.arena l.table (l.n * 16)
