-- `in_local_stack` meets its contract: the one local root is at its number. Assumes nothing.
use mathlib.Core.Path.{sym, ap₂, ◌∙◌}
use lib.Dec.{eqb}
use Rattle.arena.proofs.ReadNodes.{has-slot}
use Rattle.view.proofs.ViewLaws.{seen}
use Rattle.view.proofs.LocalRootLaws.{root-readable, local-stack-none, local-stack-read}
use Rattle.view.proofs.sites.in_local_stack.Goals as goal

pub returns-then-root-eq0 : goal.returns-then-root-eq0
returns-then-root-eq0 c =
    sym (local-stack-none _ _ _ c.requires c.if-root-eq0.true)

pub stack-requires : goal.stack-requires
stack-requires c =
    has-slot _ _ (root-readable _ _ _ c.requires c.if-root-eq0.false)

pub stack-requires-2 : goal.stack-requires-2
stack-requires-2 c =
    has-slot _ _ c.requires.readable

pub returns : goal.returns
returns c =
    let some = c.if-root-eq0.false in
    ap₂ eqb (c.stack.ensures ∙ sym (seen _ _ (root-readable _ _ _ c.requires some)).stack) (c.stack-2.ensures ∙ sym (seen _ _ c.requires.readable).stack)
    ∙ sym (local-stack-read _ _ _ c.requires some)
