-- `keeps_inherit` meets its contract: the tests come in the definition's order. Assumes nothing.
use mathlib.Core.Path.{◌≡◌, sym, ap, ◌∙◌}
use mathlib.Core.Bool.{true, not}
use Prim.Native.Nat.{ℕ, ◌+◌}
use borrow.Author.Tests.{eq-eqb, ne_eqb}
use lib.Dec.{eqb}
use Rattle.model.specs.Arena.{decode}
use Rattle.model.specs.ArenaCalls.{ValidNode}
use Rattle.model.specs.Path.{prim_count}
use Rattle.model.specs.Node.{inherit_arc}
use Rattle.model.specs.Graph.{node_at, path_at_introduction}
use Rattle.model.specs.Culling.{introducer, keeps_inherit}
use Rattle.arena.proofs.ReadNodes.{has-slot}
use Rattle.view.proofs.ViewLaws.{readable-lower}
use Rattle.culling.proofs.NodeTests.{one-prim}
use Rattle.culling.proofs.deciding.keeps_inherit.Goals as goal

pub returns-then-arc-ne-INHERIT : goal.returns-then-arc-ne-INHERIT
unfolding keeps_inherit
returns-then-arc-ne-INHERIT c =
    rw (ne_eqb _ inherit_arc (λ e. c.if-arc-ne-INHERIT.true (c.arc.ensures ∙ e)))

pub returns-then-not-in_local_stack : goal.returns-then-not-in_local_stack
unfolding keeps_inherit
returns-then-not-in_local_stack c =
    let inherit : eqb (node_at (decode c.args.arena.now).nodes c.args.n).arc inherit_arc ≡ true =
    eq-eqb _ inherit_arc (sym c.arc.ensures ∙ c.if-arc-ne-INHERIT.false) in
    rw (inherit, sym c.in_local_stack.ensures ∙ c.if-not-in_local_stack.true)

pub prim_count-prims-requires : goal.prim_count-prims-requires
prim_count-prims-requires c =
    let reads-t : ValidNode c.args.arena.now c.introducer-t.result =
    readable-lower _ _ _ c.requires.readable c.introducer-t.ensures.1 in
    has-slot _ _ reads-t

pub returns : goal.returns
unfolding keeps_inherit
returns c =
    let inherit : eqb (node_at (decode c.args.arena.now).nodes c.args.n).arc inherit_arc ≡ true =
    eq-eqb _ inherit_arc (sym c.arc.ensures ∙ c.if-arc-ne-INHERIT.false) in
    let reads-t : ValidNode c.args.arena.now c.introducer-t.result =
    readable-lower _ _ _ c.requires.readable c.introducer-t.ensures.1 in
    let ns = (decode c.args.arena.now).nodes in
    let t = c.introducer-t.result in
    let prims : eqb c.prim_count-prims.result (c.depth_below.result + 1) ≡ eqb (prim_count (path_at_introduction ns (introducer ns c.args.n))) 1 =
    (λ i. eqb (c.prim_count-prims.ensures i) (c.depth_below.ensures.0 i + 1)) ∙ sym (one-prim c.args.arena.now t reads-t)
    ∙ ap (λ (k : ℕ). eqb (prim_count (path_at_introduction ns k)) 1) c.introducer-t.ensures.0 in
    rw (inherit, sym c.in_local_stack.ensures ∙ c.if-not-in_local_stack.false) (ap not prims)
