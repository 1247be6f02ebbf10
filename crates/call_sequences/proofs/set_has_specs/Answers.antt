-- `set_has_specs` makes the call `setting_has_specs`, by its own contract. Assumes nothing.
use Rattle.call_sequences.proofs.StepTies.{set-has-specs-sets}
use Rattle.call_sequences.proofs.set_has_specs.Goals as goal

pub set_has_specs-requires : goal.set_has_specs-requires
set_has_specs-requires c =
    tt

pub shape_of-arena : goal.shape_of-arena
shape_of-arena c =
    c.set_has_specs.auto.arena

pub returns : goal.returns
returns c =
    set-has-specs-sets _ _ _ _ _ c.set_has_specs.ensures
