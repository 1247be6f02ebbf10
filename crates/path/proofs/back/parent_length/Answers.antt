-- `parent_length` meets its contract: the tests are the definition's, in its order. Assumes
-- nothing.
use native.Mathlib.Omega.{arith}
use Rattle.path.proofs.BackwardLaws.{parent-selected, parent-none, parent-named}
use mathlib.Core.Path.{◌∙◌, sym}
use lib.ListN.{length}
use Rattle.path.proofs.back.parent_length.Goals as goal

pub returns-then-ends_in : goal.returns-then-ends_in
returns-then-ends_in c =
    record { value = c.selection_start.ensures.0 ∙ parent-selected c.args.path.now (length c.args.path.now) (sym c.ends_in.ensures ∙ c.if-ends_in.true); upper_bound = c.selection_start.ensures.1 }

pub returns-then-end-le1 : goal.returns-then-end-le1
returns-then-end-le1 c =
    record { value = parent-none c.args.path.now (length c.args.path.now) (sym c.ends_in.ensures ∙ c.if-ends_in.false) c.if-end-le1.true; upper_bound = omega arith }

pub returns : goal.returns
returns c =
    record { value = c.before_name.ensures.0 ∙ parent-named c.args.path.now (length c.args.path.now) (sym c.ends_in.ensures ∙ c.if-ends_in.false) c.if-end-le1.false; upper_bound = c.before_name.ensures.1 }
