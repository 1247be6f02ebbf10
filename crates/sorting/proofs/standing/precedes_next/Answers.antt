-- `standing::precedes_next` meets its contract. Assumes nothing.
use mathlib.Core.Path.{sym, subst, ◌∙◌}
use Rattle.model.specs.ArenaCalls.{ValidNode}
use Rattle.laws.proofs.StoredLaws.{bytes-by-place}
use Rattle.arena.proofs.ReadNodes.{has-slot}
use Rattle.sorting.proofs.StandingLaws.{next-readable}
use Rattle.sorting.proofs.standing.precedes_next.Goals as goal

pub next_sibling-y-requires : goal.next_sibling-y-requires
next_sibling-y-requires c =
    has-slot _ _ c.requires

pub precedes-requires : goal.precedes-requires
precedes-requires c =
    let e = c.next_sibling-y.ensures in (
      c.requires,
      subst (ValidNode c.args.arena.now) (sym e)
          (next-readable c.args.arena.now (bytes-by-place c.args.arena.now (λ k. (c.type_inv.arena k).fits))
          c.requires.opened c.args.x
          c.requires.below (λ none. c.if-y.false (e ∙ none))),
    )
