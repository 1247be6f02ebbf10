-- `follows` meets its contract: the first line that differs says it.
-- Assumes nothing.
use mathlib.Core.Bool.{false≢true}
use mathlib.Core.Path.{sym, ◌∙◌}
use borrow.Author.Tests.{ltb-true}
use Rattle.laws.proofs.WalkLaws.{is-less}
use Rattle.certificate.proofs.CopyParts.{root-follows, class-follows, hops-follows, tested-same}
use Rattle.certificate.proofs.entries.follows.Goals as goal

pub returns-then-a-b : goal.returns-then-a-b
returns-then-a-b c =
    λ e u p q.
    root-follows p q c.args.places.now
    (sym c.by_places.ensures ∙ is-less _ (sym c.is_lt.ensures ∙ e))

pub returns-then-a-b-2 : goal.returns-then-a-b-2
returns-then-a-b-2 c =
    λ e u p q.
    class-follows p q c.args.places.now c.if-a-b.false (ltb-true c.args.a.class_depth c.args.b.class_depth e)

pub returns-then-a-b-3 : goal.returns-then-a-b-3
returns-then-a-b-3 c =
    λ e u p q.
    hops-follows p q c.args.places.now c.if-a-b.false c.if-a-b-2.false (ltb-true c.args.b.hops c.args.a.hops e)

pub returns-then-a-b-4 : goal.returns-then-a-b-4
returns-then-a-b-4 c =
    λ e. absurd (false≢true e)

pub follows_in_stack-requires : goal.follows_in_stack-requires
follows_in_stack-requires c =
    let local = tested-same c.args.a.local c.args.b.local c.if-a-b-4.false in
    (c.requires.0, c.requires.1, record { root = c.if-a-b.false; class-depth = c.if-a-b-2.false; hops = c.if-a-b-3.false; local = local })
