-- `is_root` meets its contract: the tests are the definition's, in its order. Assumes nothing.
use borrow.Author.Tests.{eq-eqb, ne_eqb, not-true, not-false}
use mathlib.Core.Path.{sym, ◌∙◌}
use Rattle.validate.proofs.record.is_root.Goals as goal

pub returns-then-numbers-ne-ROOT : goal.returns-then-numbers-ne-ROOT
returns-then-numbers-ne-ROOT c =
    rw (ne_eqb c.args.numbers.arc 0 c.if-numbers-ne-ROOT.true)

pub returns-then-not-is_inert : goal.returns-then-not-is_inert
returns-then-not-is_inert c =
    rw (eq-eqb c.args.numbers.arc 0 c.if-numbers-ne-ROOT.false, sym c.is_inert.ensures ∙ not-true _ c.if-not-is_inert.true-raw)

pub returns-then-numbers-ne-NO_NODE : goal.returns-then-numbers-ne-NO_NODE
returns-then-numbers-ne-NO_NODE c =
    let x = c.args.numbers in
    rw (
      eq-eqb x.arc 0 c.if-numbers-ne-ROOT.false,
      sym c.is_inert.ensures ∙ not-false _ c.if-not-is_inert.false-raw,
      ne_eqb x.parent 4294967295 c.if-numbers-ne-NO_NODE.true,
    )

pub returns : goal.returns
returns c =
    let x = c.args.numbers in
    rw (
      eq-eqb x.arc 0 c.if-numbers-ne-ROOT.false,
      sym c.is_inert.ensures ∙ not-false _ c.if-not-is_inert.false-raw,
      eq-eqb x.parent 4294967295 c.if-numbers-ne-NO_NODE.false,
    )
