-- `follows_in_stack` meets its contract: what each list of lines answers is theirs.
-- Assumes nothing.
use mathlib.Core.Path.{sym, ◌∙◌}
use Rattle.laws.proofs.WalkLaws.{is-less}
use Rattle.certificate.proofs.CopyParts.{stack-follows, origin-follows, said-less}
use Rattle.certificate.proofs.entries.follows_in_stack.Goals as goal

pub returns-then-a-b : goal.returns-then-a-b
returns-then-a-b c =
    λ e u p q.
    origin-follows p q c.args.places.now c.requires.2 c.if-a-b.true
    (said-less e c.is_lt.ensures c.then.ensures c.by_having-implied.ensures c.by_number.ensures)

pub returns-then-a : goal.returns-then-a
returns-then-a c =
    λ e u p q.
    stack-follows p q c.args.places.now c.requires.2
    (rw c.if-a.true
    (said-less e c.is_lt-then-a.ensures c.then-then-a.ensures c.by_having-implied.ensures c.by_places-origins.ensures))

pub returns : goal.returns
returns c =
    λ e u p q.
    stack-follows p q c.args.places.now c.requires.2
    (rw c.if-a.false (sym c.by_places-origins.ensures ∙ is-less _ (sym c.is_lt-2.ensures ∙ e)))
