-- `number` meets its contract. The invariant of its loop: the nodes below `n` have their numbers,
-- and `kept` of them stay. Assumes nothing.
use Rattle.erasing.proofs.KeptNumbers.{Numbering}
use Rattle.erasing.proofs.lists.number.Given as goal

abbrev pub invariant-loop-n : goal.invariant-loop-n
invariant-loop-n l = Numbering l.set l.kept l.n l.numbers
