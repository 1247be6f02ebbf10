-- `clear` meets its contract: a count of 0 and no marks are the empty graph. Assumes nothing.
use mathlib.Core.Path.{sym, ap, ◌∙◌}
use mathlib.Core.Bool.{false}
use Rattle.arena.specs.Header.{marks_stored}
use Rattle.child_lists.proofs.EmptyArena.{empty-encode}
use Rattle.snapshot.proofs.fill.clear.Goals as goal

pub returns : goal.returns
returns c =
    c.write_state.ensures ∙ ap (marks_stored false false false) c.write_count.ensures ∙ sym (empty-encode c.args.arena.now c.requires)
