-- `arc_rank` meets its contract: an arm for each of the definition's cases. Assumes nothing.
use mathlib.Core.Path.{sym, ap}
use native.Mathlib.Omega.{arith}
use borrow.Author.Tests.{ne_eqb}
use Rattle.model.specs.Node.{root_arc, inherit_arc, variant_arc, relocate_arc, reference_arc, payload_arc, specialize_arc}
use Rattle.model.specs.Strength.{arc_rank}
use Rattle.view.proofs.fields.arc_rank.Goals as goal

pub returns-in-0 : goal.returns-in-0
unfolding arc_rank
returns-in-0 c =
    ap arc_rank (sym c.in-0.is)

pub returns-in-1 : goal.returns-in-1
unfolding arc_rank
returns-in-1 c =
    ap arc_rank (sym c.in-1.is)

pub returns-in-2 : goal.returns-in-2
unfolding arc_rank
returns-in-2 c =
    ap arc_rank (sym c.in-2.is)

pub returns-in-3 : goal.returns-in-3
unfolding arc_rank
returns-in-3 c =
    ap arc_rank (sym c.in-3.is)

pub returns-in-4 : goal.returns-in-4
unfolding arc_rank
returns-in-4 c =
    ap arc_rank (sym c.in-4.is)

pub returns-in-5 : goal.returns-in-5
unfolding arc_rank
returns-in-5 c =
    ap arc_rank (sym c.in-5.is)

pub returns-in-6 : goal.returns-in-6
unfolding arc_rank
returns-in-6 c =
    ap arc_rank (sym c.in-6.is)

pub returns-in_default : goal.returns-in_default
unfolding arc_rank
returns-in_default c =
    let arc = c.args.arc in
    rw (
      ne_eqb arc root_arc (omega arith),
      ne_eqb arc inherit_arc (omega arith),
      ne_eqb arc variant_arc (omega arith),
      ne_eqb arc relocate_arc (omega arith),
      ne_eqb arc reference_arc (omega arith),
      ne_eqb arc payload_arc (omega arith),
      ne_eqb arc specialize_arc (omega arith),
    )
