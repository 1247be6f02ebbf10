-- `order` makes the call `ordering`, by `finalize_strength_order`'s contract. Assumes nothing.
use Rattle.call_sequences.proofs.StepTies.{finalize-orders}
use Rattle.call_sequences.proofs.order.Goals as goal

pub finalize_strength_order-requires : goal.finalize_strength_order-requires
finalize_strength_order-requires c =
    tt

pub shape_of-arena : goal.shape_of-arena
shape_of-arena c =
    c.finalize_strength_order.auto.arena

pub returns : goal.returns
returns c =
    finalize-orders _ _ _ c.finalize_strength_order.ensures
