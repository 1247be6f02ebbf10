-- `start` makes the call `starting`, by `init_root`'s contract. Assumes nothing.
use Rattle.call_sequences.proofs.StepTies.{init-root-starts}
use Rattle.call_sequences.proofs.start.Goals as goal

pub init_root-requires : goal.init_root-requires
init_root-requires c =
    tt

pub shape_of-arena : goal.shape_of-arena
shape_of-arena c =
    c.init_root.auto.arena

pub returns : goal.returns
returns c =
    init-root-starts _ _ _ _ _ _ c.init_root.ensures
