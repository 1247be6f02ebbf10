-- `erase` makes the call `erasing`, by crates/erasing's contract. Assumes nothing.
use Rattle.call_sequences.proofs.StepTies.{erase-erases}
use Rattle.call_sequences.proofs.erase.Goals as goal

pub erase-requires : goal.erase-requires
erase-requires c =
    tt

pub shape_of-arena : goal.shape_of-arena
shape_of-arena c =
    c.erase.auto.arena

pub returns : goal.returns
returns c =
    erase-erases _ _ _ _ c.erase.ensures
