-- `ask` meets its contract: the set's size, then the questions of the arena. Assumes nothing.
use mathlib.Core.Path.{sym, ◌∙◌}
use Rattle.model.specs.Arena.{decode}
use Rattle.erasing.proofs.EraseCallLaws.{needs_node, not_set, whole_set}
use Rattle.erasing.proofs.calls.ask.Goals as goal

pub returns-then-set-ne-SET_BYTES : goal.returns-then-set-ne-SET_BYTES
returns-then-set-ne-SET_BYTES c =
    not_set c.args.arena.now c.args.set.now (needs_node (decode c.args.arena.now)) c.if-set-ne-SET_BYTES.true

pub returns : goal.returns
returns c =
    c.ask_node_zero.ensures
    ∙ sym (whole_set c.args.arena.now c.args.set.now (needs_node (decode c.args.arena.now)) c.if-set-ne-SET_BYTES.false)
