-- `is_before` meets its contract: what a verdict asks are both origins or both R, and these have
-- places. Assumes nothing.
use mathlib.Core.Path.{refl, ap, ◌∙◌}
use Rattle.std.specs.declared.cmp.Ordering.{Ordering}
use Rattle.model.specs.Order.{is_less}
use Rattle.model.specs.Strength.{first}
use Rattle.certificate.proofs.CertificateParts.{asked-placed, settled_before, asked-before}
use Rattle.certificate.proofs.entries.is_before.Goals as goal

pub by_places-requires : goal.by_places-requires
by_places-requires c =
    let placed = asked-placed c.requires.0 c.requires.1 (rw c.in-Ask.is at c.weigh.ensures.asks) in
    (placed.0, placed.1, c.requires.0.few)

pub returns-in-Settled : goal.returns-in-Settled
returns-in-Settled c =
    settled_before c.weigh.ensures c.args.places.now c.in-Settled.is c.is_lt.ensures

pub returns-in-Ask : goal.returns-in-Ask
returns-in-Ask c =
    asked-before c.weigh.ensures c.args.places.now c.in-Ask.is refl refl
    (c.is_lt-in-Ask.ensures
    ∙ ap is_less (c.then.ensures ∙ ap (λ (o : Ordering). first o c.in-Ask.o) c.by_places.ensures))
