-- `weigh_origins` meets its contract: one origin, one R, or both R are asked. Assumes nothing.
use mathlib.Core.Path.{◌≡◌}
use Rattle.view.specs.View.{view_in}
use Rattle.strength.proofs.VerdictNumbers.{read_same, read-other}
use Rattle.strength.proofs.SpecializesLaws.{one-origin, one-root, roots-differ}
use Rattle.strength.proofs.specializes.weigh_origins.Goals as goal

pub returns-then-x-y : goal.returns-then-x-y
returns-then-x-y c =
    one-origin _ _ _ _ (read_same c.origin-x.ensures c.origin-y.ensures c.if-x-y.true) c.same_origin.ensures

pub returns-then-ra-rb : goal.returns-then-ra-rb
returns-then-ra-rb c =
    let origins-differ : (view_in c.args.arena.now).origin c.args.a ≡ (view_in c.args.arena.now).origin c.args.b → ⊥ =
    read-other c.origin-x.ensures c.origin-y.ensures c.if-x-y.false in
    one-root _ _ _ _ origins-differ (read_same c.requires.1.node c.requires.2.node c.if-ra-rb.true) c.weigh_same_root.ensures

pub returns : goal.returns
returns c =
    let origins-differ : (view_in c.args.arena.now).origin c.args.a ≡ (view_in c.args.arena.now).origin c.args.b → ⊥ =
    read-other c.origin-x.ensures c.origin-y.ensures c.if-x-y.false in
    roots-differ c.requires.0 _ _ c.requires.1 c.requires.2 origins-differ c.if-ra-rb.false c.by_number.ensures
