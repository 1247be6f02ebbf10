-- `with_root` meets its contract: node 0 is no local root. Assumes nothing.
use native.Mathlib.Omega.{arith}
use borrow.Author.Tests.{le-ltb, lt-ltb, eq-eqb, ne_eqb}
use Rattle.snapshot.proofs.checks.with_root.Goals as goal

pub returns-then-n-eq0 : goal.returns-then-n-eq0
returns-then-n-eq0 c =
    rw (le-ltb 0 c.args.n (omega arith))

pub returns-then-arc-eq-ROOT : goal.returns-then-arc-eq-ROOT
returns-then-arc-eq-ROOT c =
    let higher = c.if-n-eq0.false in
    rw (lt-ltb 0 c.args.n (omega arith), eq-eqb c.args.arc 0 c.if-arc-eq-ROOT.true)

pub returns : goal.returns
returns c =
    let higher = c.if-n-eq0.false in
    rw (lt-ltb 0 c.args.n (omega arith), ne_eqb c.args.arc 0 c.if-arc-eq-ROOT.false)
