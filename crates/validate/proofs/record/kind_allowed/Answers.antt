-- `kind_allowed` meets its contract: the definition's tests, those of every node first. Assumes
-- nothing.
use mathlib.Core.Path.{◌≡◌, refl, sym, ap, ◌∙◌}
use mathlib.Core.Bool.{Bool, true, false, not, ◌&&◌, cond, and-true}
use borrow.Author.Tests.{eq-eqb, ne_eqb, le-leb, lt-leb}
use Rattle.model.specs.Node.{has_flag, culled_flag}
use Rattle.validate.specs.RecordCheck.{root_place_at, arc_at, culled_at}
use Rattle.validate.proofs.record.kind_allowed.Goals as goal

last-fails : (a b : Bool) → (a && (b && false)) ≡ false
last-fails false b = refl
last-fails true false = refl
last-fails true true = refl

either_way : (t u : Bool) → u ≡ cond t u u
either_way true u = refl
either_way false u = refl

pub returns-then-numbers-gt-SPECIALIZE : goal.returns-then-numbers-gt-SPECIALIZE
returns-then-numbers-gt-SPECIALIZE c =
    rw (lt-leb c.args.numbers.arc 6 c.if-numbers-gt-SPECIALIZE.true)

pub returns-then-numbers-gt1 : goal.returns-then-numbers-gt1
returns-then-numbers-gt1 c =
    rw (lt-leb c.args.numbers.has_specs 1 c.if-numbers-gt1.true) (sym (last-fails (arc_at c.args.before c.args.numbers) (culled_at c.args.before c.args.numbers)))

pub returns-then-numbers-eq-ROOT : goal.returns-then-numbers-eq-ROOT
returns-then-numbers-eq-ROOT c =
    let whole = not (has_flag culled_flag c.args.numbers.flags) in
    rw (
      le-leb c.args.numbers.arc 6 c.if-numbers-gt-SPECIALIZE.false,
      le-leb c.args.numbers.has_specs 1 c.if-numbers-gt1.false,
      eq-eqb c.args.numbers.arc 0 c.if-numbers-eq-ROOT.true,
    )
    (c.root_allowed.ensures
    ∙ ap (λ (t : Bool). root_place_at c.args.before c.args.numbers && t) (either_way c.args.before.culled_allowed whole ∙ sym (and-true _)))

pub returns-then-before : goal.returns-then-before
returns-then-before c =
    rw (
      le-leb c.args.numbers.arc 6 c.if-numbers-gt-SPECIALIZE.false,
      le-leb c.args.numbers.has_specs 1 c.if-numbers-gt1.false,
      ne_eqb c.args.numbers.arc 0 c.if-numbers-eq-ROOT.false,
      c.if-before.true,
    )

pub returns : goal.returns
returns c =
    rw (
      le-leb c.args.numbers.arc 6 c.if-numbers-gt-SPECIALIZE.false,
      le-leb c.args.numbers.has_specs 1 c.if-numbers-gt1.false,
      ne_eqb c.args.numbers.arc 0 c.if-numbers-eq-ROOT.false,
      c.if-before.false,
    ) (ap not c.is_culled.ensures ∙ sym (and-true (not (has_flag culled_flag c.args.numbers.flags))))
