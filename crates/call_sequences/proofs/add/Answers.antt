-- `add` makes the call `adding`, by `add_child`'s contract. Assumes nothing.
use Rattle.call_sequences.proofs.StepTies.{add-child-adds}
use Rattle.call_sequences.proofs.add.Goals as goal

pub add_child-requires : goal.add_child-requires
add_child-requires c =
    tt

pub shape_of-arena : goal.shape_of-arena
shape_of-arena c =
    c.add_child.auto.arena

pub returns : goal.returns
returns c =
    add-child-adds _ _ _ _ _ c.add_child.ensures
