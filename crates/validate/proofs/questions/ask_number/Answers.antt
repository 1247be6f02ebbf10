-- `ask_number` meets its contract: question 4 by the header's count. Assumes nothing.
use native.Mathlib.Omega.{arith}
use borrow.Author.Tests.{lt-ltb, le-ltb}
use Rattle.model.specs.Arena.{count_in}
use Rattle.validate.proofs.questions.ask_number.Goals as goal

pub returns-then-n-count : goal.returns-then-n-count
returns-then-n-count c =
    rw (le-ltb c.args.n (count_in c.args.arena.now) (omega (arith, c.count.ensures, c.if-n-count.true)))

pub returns : goal.returns
returns c =
    rw (lt-ltb c.args.n (count_in c.args.arena.now) (omega (arith, c.count.ensures, c.if-n-count.false)))
