-- `may_mark` meets its contract: the tests are the definition's, in its order. Assumes nothing.
use mathlib.Core.Path.{ap}
use mathlib.Core.Bool.{not}
use native.Mathlib.Omega.{arith}
use borrow.Author.Tests.{eq-eqb, ne_eqb, lt-ltb, le-ltb}
use Rattle.nodes.proofs.setting.may_mark.Goals as goal

pub returns-then-flags-gt7 : goal.returns-then-flags-gt7
returns-then-flags-gt7 c =
    rw (le-ltb c.args.flags 8 (omega (arith, c.if-flags-gt7.true)))

pub returns-then-arc-ne-ROOT : goal.returns-then-arc-ne-ROOT
returns-then-arc-ne-ROOT c =
    rw (lt-ltb c.args.flags 8 (omega (arith, c.if-flags-gt7.false)), ne_eqb c.args.arc 0 c.if-arc-ne-ROOT.true)

pub returns : goal.returns
returns c =
    rw (lt-ltb c.args.flags 8 (omega (arith, c.if-flags-gt7.false)), eq-eqb c.args.arc 0 c.if-arc-ne-ROOT.false)
    (ap not c.is_culled.ensures)
