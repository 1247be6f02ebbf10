-- `before_name` meets its contract: what the name starts after tells whether a slash goes with it.
-- Assumes nothing.
use native.Mathlib.Omega.{arith}
use Rattle.path.proofs.BackwardLaws.{before-first, before-slash, before-bare}
use Rattle.path.proofs.back.before_name.Goals as goal

pub returns-then-start-le1 : goal.returns-then-start-le1
returns-then-start-le1 c =
    (before-first c.args.path.now c.args.end c.name_start-start.result c.name_start-start.ensures.0 c.if-start-le1.true, c.name_start-start.ensures.1)

pub returns-then-path-start-eq47 : goal.returns-then-path-start-eq47
returns-then-path-start-eq47 c =
    (before-slash c.args.path.now c.args.end c.name_start-start.result c.name_start-start.ensures.0 c.if-start-le1.false c.if-path-start-eq47.true, omega (arith, c.name_start-start.ensures.1))

pub returns : goal.returns
returns c =
    (before-bare c.args.path.now c.args.end c.name_start-start.result c.name_start-start.ensures.0 c.if-start-le1.false c.if-path-start-eq47.false, c.name_start-start.ensures.1)
