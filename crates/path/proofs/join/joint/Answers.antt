-- `joint` meets its contract: a slash is counted where one is put between. Assumes nothing.
use Rattle.path.proofs.JoinLaws.{joined-slash, joined-brace, joined-between}
use mathlib.Core.Path.{◌∙◌, sym}
use Rattle.path.proofs.join.joint.Goals as goal

pub returns-then-ends_in : goal.returns-then-ends_in
returns-then-ends_in c =
    joined-slash c.args.path.now (sym c.ends_in.ensures ∙ c.if-ends_in.true)

pub returns-then-ends_in-2 : goal.returns-then-ends_in-2
returns-then-ends_in-2 c =
    joined-brace c.args.path.now (sym c.ends_in.ensures ∙ c.if-ends_in.false) (sym c.ends_in-2.ensures ∙ c.if-ends_in-2.true)

pub returns : goal.returns
returns c =
    joined-between c.args.path.now (sym c.ends_in.ensures ∙ c.if-ends_in.false) (sym c.ends_in-2.ensures ∙ c.if-ends_in-2.false)
