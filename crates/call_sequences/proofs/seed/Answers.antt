-- `seed` seeds, by `seed_child`'s contract. Assumes nothing.
use Rattle.call_sequences.proofs.StepTies.{seed-child-seeds}
use Rattle.call_sequences.proofs.seed.Goals as goal

pub seed_child-requires : goal.seed_child-requires
seed_child-requires c =
    tt

pub shape_of-into : goal.shape_of-into
shape_of-into c =
    c.seed_child.auto.into

pub returns : goal.returns
returns c =
    seed-child-seeds _ _ _ _ _ c.seed_child.ensures
