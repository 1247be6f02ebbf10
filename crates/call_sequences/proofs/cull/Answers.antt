-- `cull` makes the call `culling`, by `cull_subtrees_without_opinions`' contract. Assumes nothing.
use Rattle.call_sequences.proofs.StepTies.{cull-culls}
use Rattle.call_sequences.proofs.cull.Goals as goal

pub cull_subtrees_without_opinions-requires : goal.cull_subtrees_without_opinions-requires
cull_subtrees_without_opinions-requires c =
    tt

pub shape_of-arena : goal.shape_of-arena
shape_of-arena c =
    c.cull_subtrees_without_opinions.auto.arena

pub returns : goal.returns
returns c =
    cull-culls _ _ _ c.cull_subtrees_without_opinions.ensures
