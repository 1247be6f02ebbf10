-- `erase` meets its contract: the new numbers, and what `write_erased` leaves by them. Assumes
-- nothing.
use mathlib.Core.Path.{refl, ap, ◌∙◌}
use native.Mathlib.Omega.{arith}
use Rattle.model.specs.Erasing.{stays, new_number}
use Rattle.arena.proofs.HeldArenas.{held}
use Rattle.erasing.proofs.in_place.erase.Goals as goal

pub number-kept-requires : goal.number-kept-requires
number-kept-requires c =
    (c.requires.set_len.0, refl, omega (arith, c.count-count.ensures, (held _ c.requires.valid_arena.0.holds).few))

pub returns : goal.returns
returns c =
    record {
      kept = c.number-kept.ensures.0 ∙ ap (new_number (stays c.args.set.now)) c.count-count.ensures;
      bytes = c.write_erased.ensures;
    }
