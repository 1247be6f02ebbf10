-- `deepen` makes the call `deepening`, by `append_child_name_to_all_sites`' contract. Assumes
-- nothing.
use Rattle.call_sequences.proofs.StepTies.{append-deepens}
use Rattle.call_sequences.proofs.deepen.Goals as goal

pub append_child_name_to_all_sites-requires : goal.append_child_name_to_all_sites-requires
append_child_name_to_all_sites-requires c =
    tt

pub shape_of-arena : goal.shape_of-arena
shape_of-arena c =
    c.append_child_name_to_all_sites.auto.arena

pub returns : goal.returns
returns c =
    append-deepens _ _ _ _ c.append_child_name_to_all_sites.ensures
