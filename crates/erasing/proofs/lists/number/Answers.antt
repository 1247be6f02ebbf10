-- `number` meets its contract. The invariant of its loop: the nodes below `n` have their numbers,
-- and `kept` of them stay. Assumes nothing.
use native.Mathlib.Omega.{arith}
use Rattle.erasing.proofs.KeptNumbers.{numbering-few}
use Rattle.erasing.proofs.lists.number.Goals as goal

pub overflow_add-kept : goal.overflow_add-kept
overflow_add-kept c = omega (arith, c.loop-n-test.true, c.requires.2, numbering-few c.loop-n.invariant)
