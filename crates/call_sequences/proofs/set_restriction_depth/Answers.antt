-- `set_restriction_depth` makes the call `setting_restriction`, by its own contract. Assumes
-- nothing.
use Rattle.call_sequences.proofs.StepTies.{set-restriction-sets}
use Rattle.call_sequences.proofs.set_restriction_depth.Goals as goal

pub set_restriction_depth-requires : goal.set_restriction_depth-requires
set_restriction_depth-requires c =
    tt

pub shape_of-arena : goal.shape_of-arena
shape_of-arena c =
    c.set_restriction_depth.auto.arena

pub returns : goal.returns
returns c =
    set-restriction-sets _ _ _ _ _ c.set_restriction_depth.ensures
