-- `stored_root` meets its contract. Assumes nothing.
use borrow.Author.Tests.{eq-eqb, ne_eqb}
use Rattle.nodes.proofs.calls.stored_root.Goals as goal

pub returns-then-count-eq0 : goal.returns-then-count-eq0
returns-then-count-eq0 c =
    rw (eq-eqb c.args.count 0 c.if-count-eq0.true)

pub local_root-requires : goal.local_root-requires
local_root-requires c =
    c.requires.whole

pub returns : goal.returns
returns c =
    rw (ne_eqb c.args.count 0 c.if-count-eq0.false) c.local_root.ensures
