-- `intro_length` meets its contract. The loop's invariant: the steps left from `end` on lead where
-- all of them lead from the whole path. Assumes nothing.
use native.Mathlib.Omega.{arith}
use Rattle.path.proofs.BackwardLaws.{intro-more, intro-stays}
use mathlib.Core.Path.{◌≡◌, ◌∙◌, sym, ap}
use Rattle.model.specs.Path.{before_name, intro_step}
use Rattle.path.proofs.back.intro_length.Goals as goal

pub returns-then-next-end : goal.returns-then-next-end
returns-then-next-end c =
    let stepped : c.before_name-next.result ≡ intro_step c.args.path.now c.loop-left.end =
    c.before_name-next.ensures.0 ∙ ap (before_name c.args.path.now) c.without_selections-named.ensures.0 in record { value = sym (intro-stays c.args.path.now c.loop-left.left c.loop-left.end (sym c.if-next-end.true ∙ stepped)) ∙ c.loop-left.invariant.0; upper_bound = c.loop-left.invariant.1 }

pub loop-left-preserved : goal.loop-left-preserved
loop-left-preserved c =
    let stepped : c.before_name-next.result ≡ intro_step c.args.path.now c.loop-left.end =
    c.before_name-next.ensures.0 ∙ ap (before_name c.args.path.now) c.without_selections-named.ensures.0 in
    (sym (intro-more c.args.path.now c.loop-left.left c.loop-left.end c.before_name-next.result c.loop-left-test.true stepped) ∙ c.loop-left.invariant.0, omega (arith, c.before_name-next.ensures.1, c.without_selections-named.ensures.1, c.loop-left.invariant.1))
