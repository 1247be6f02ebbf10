-- `same_site` meets its contract: the stacks first, then the paths. Assumes nothing.
use borrow.Author.Tests.{eq-eqb, ne_eqb}
use mathlib.Core.Path.{sym, ap₂, ◌∙◌}
use Rattle.model.specs.Path.{same_path}
use Rattle.model.specs.Node.{same_site}
use Rattle.model.specs.Graph.{node_at}
use Rattle.model.specs.Arena.{decode}
use Rattle.arena.proofs.ReadNodes.{has-slot, has-path}
use Rattle.view.proofs.ViewLaws.{seen}
use Rattle.view.proofs.sites.same_site.Goals as goal

pub stack-requires : goal.stack-requires
stack-requires c =
    has-slot _ _ c.requires.0

pub stack-requires-2 : goal.stack-requires-2
stack-requires-2 c =
    has-slot _ _ c.requires.1

pub returns-then-stack : goal.returns-then-stack
unfolding same_site
returns-then-stack c =
    let left = seen _ _ c.requires.0 in
    let right = seen _ _ c.requires.1 in
    rw (ne_eqb (node_at (decode c.args.arena.now).nodes c.args.a).stack (node_at (decode c.args.arena.now).nodes c.args.b).stack
    (λ e. c.if-stack.true (c.stack.ensures ∙ sym left.stack ∙ e ∙ right.stack ∙ sym c.stack-2.ensures)))

pub path-requires : goal.path-requires
path-requires c =
    has-path _ _ c.requires.0

pub path-requires-2 : goal.path-requires-2
path-requires-2 c =
    has-path _ _ c.requires.1

pub returns : goal.returns
unfolding same_site
returns c =
    let left = seen _ _ c.requires.0 in
    let right = seen _ _ c.requires.1 in
    rw (eq-eqb (node_at (decode c.args.arena.now).nodes c.args.a).stack (node_at (decode c.args.arena.now).nodes c.args.b).stack
    (left.stack ∙ sym c.stack.ensures ∙ c.if-stack.false ∙ c.stack-2.ensures ∙ sym right.stack))
    (c.same_path.ensures ∙ ap₂ same_path (c.path.ensures ∙ sym left.path) (c.path-2.ensures ∙ sym right.path))
