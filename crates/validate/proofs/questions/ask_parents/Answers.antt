-- `ask_parents` meets its contract: one node twice, or two parents compared. Assumes nothing.
use mathlib.Core.Path.{sym, ◌∙◌}
use borrow.Author.Tests.{eq-eqb, ne_eqb}
use Rattle.model.specs.Graph.{node_at}
use Rattle.model.specs.Arena.{decode}
use Rattle.validate.proofs.questions.ask_parents.Goals as goal

pub returns-then-a-b : goal.returns-then-a-b
returns-then-a-b c =
    rw (eq-eqb c.args.a c.args.b c.if-a-b.true)

pub parent-requires : goal.parent-requires
parent-requires c =
    c.requires.0

pub parent-requires-2 : goal.parent-requires-2
parent-requires-2 c =
    c.requires.1

pub returns-then-parent : goal.returns-then-parent
returns-then-parent c =
    let ns = (decode c.args.arena.now).nodes in
    rw (
      ne_eqb c.args.a c.args.b c.if-a-b.false,
      ne_eqb (node_at ns c.args.a).parent (node_at ns c.args.b).parent (λ e. c.if-parent.true (c.parent.ensures ∙ e ∙ sym c.parent-2.ensures)),
    )

pub returns : goal.returns
returns c =
    let ns = (decode c.args.arena.now).nodes in
    rw (
      ne_eqb c.args.a c.args.b c.if-a-b.false,
      eq-eqb (node_at ns c.args.a).parent (node_at ns c.args.b).parent (sym c.parent.ensures ∙ c.if-parent.false ∙ c.parent-2.ensures),
    )
