-- `mark` makes the call `marking`, by its own contract. Assumes nothing.
use Rattle.call_sequences.proofs.StepTies.{mark-marks}
use Rattle.call_sequences.proofs.mark.Goals as goal

pub mark-requires : goal.mark-requires
mark-requires c =
    tt

pub shape_of-arena : goal.shape_of-arena
shape_of-arena c =
    c.mark.auto.arena

pub returns : goal.returns
returns c =
    mark-marks _ _ _ _ _ c.mark.ensures
