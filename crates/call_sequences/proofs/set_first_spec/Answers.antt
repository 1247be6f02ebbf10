-- `set_first_spec` makes the call `setting_first_spec`, by its own contract. Assumes nothing.
use Rattle.call_sequences.proofs.StepTies.{set-first-spec-sets}
use Rattle.call_sequences.proofs.set_first_spec.Goals as goal

pub set_first_spec-requires : goal.set_first_spec-requires
set_first_spec-requires c =
    tt

pub shape_of-arena : goal.shape_of-arena
shape_of-arena c =
    c.set_first_spec.auto.arena

pub returns : goal.returns
returns c =
    set-first-spec-sets c.args.n c.args.first _ _ _ c.set_first_spec.ensures
