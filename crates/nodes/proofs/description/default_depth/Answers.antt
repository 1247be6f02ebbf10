-- `default_depth` meets its contract. Assumes nothing.
use Rattle.nodes.proofs.description.default_depth.Goals as goal

pub prim_count-requires : goal.prim_count-requires
prim_count-requires c =
    record { whole = c.requires.valid_arena.whole; within = rw c.in-Some.is at c.requires.has_slot_in }

pub returns-in-Some : goal.returns-in-Some
returns-in-Some c =
    rw c.in-Some.is c.prim_count.ensures

pub returns-in-None : goal.returns-in-None
returns-in-None c =
    rw c.in-None.is
