-- `root_allowed` meets its contract: a root that is culled is none. Assumes nothing.
use mathlib.Core.Path.{sym, ap, ◌∙◌}
use mathlib.Core.Bool.{Bool, not, ◌&&◌, and-false, and-true}
use borrow.Author.Tests.{eq-eqb, ne_eqb}
use Rattle.validate.specs.RecordCheck.{root_place_at}
use Rattle.validate.proofs.record.root_allowed.Goals as goal

pub returns-then-is_culled : goal.returns-then-is_culled
returns-then-is_culled c =
    let placed = root_place_at c.args.before c.args.numbers in
    sym (ap (λ (t : Bool). placed && not t) (sym c.is_culled.ensures ∙ c.if-is_culled.true) ∙ and-false placed)

pub returns-then-before-eq0 : goal.returns-then-before-eq0
returns-then-before-eq0 c =
    rw (sym c.is_culled.ensures ∙ c.if-is_culled.false, eq-eqb c.args.before.count 0 c.if-before-eq0.true)

pub returns-then-numbers-ne0 : goal.returns-then-numbers-ne0
returns-then-numbers-ne0 c =
    rw (
      sym c.is_culled.ensures ∙ c.if-is_culled.false,
      ne_eqb c.args.before.count 0 c.if-before-eq0.false,
      ne_eqb c.args.numbers.parent 0 c.if-numbers-ne0.true,
    )

pub returns : goal.returns
returns c =
    rw (
      sym c.is_culled.ensures ∙ c.if-is_culled.false,
      ne_eqb c.args.before.count 0 c.if-before-eq0.false,
      eq-eqb c.args.numbers.parent 0 c.if-numbers-ne0.false,
    ) (sym (and-true (not c.args.before.has_root)))
