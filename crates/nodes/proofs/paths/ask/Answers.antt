-- `ask` meets its contract: the buffer's size, then the questions of the arena. Assumes nothing.
use borrow.Author.Tests.{eq-eqb, ne_eqb}
use mathlib.Core.Path.{sym, ◌∙◌}
use lib.ListN.{length}
use Rattle.model.specs.Arena.{decode}
use Rattle.model.specs.ArenaCalls.{is_path_buffer}
use Rattle.model.specs.Calls.{reads_node}
use Rattle.laws.proofs.ArenaCallLaws.{buffer-refused, buffer-passed}
use Rattle.nodes.proofs.paths.ask.Goals as goal

pub returns-then-buffer-ne-PATH_BYTES : goal.returns-then-buffer-ne-PATH_BYTES
returns-then-buffer-ne-PATH_BYTES c =
    buffer-refused c.args.arena.now (is_path_buffer c.args.buffer.now) (reads_node (decode c.args.arena.now) c.args.n)
    (ne_eqb (length c.args.buffer.now) 255 c.if-buffer-ne-PATH_BYTES.true)

pub returns : goal.returns
returns c =
    c.ask_node.ensures
    ∙ sym (buffer-passed c.args.arena.now (is_path_buffer c.args.buffer.now) (reads_node (decode c.args.arena.now) c.args.n)
    (eq-eqb (length c.args.buffer.now) 255 c.if-buffer-ne-PATH_BYTES.false))
