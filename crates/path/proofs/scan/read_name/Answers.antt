-- `read_name` meets its contract: a byte that begins a name must stand there, and the run behind it
-- belongs to it. Assumes nothing.
use Rattle.path.proofs.ReadingLaws.{no_name, name-read}
use mathlib.Core.Path.{◌∙◌, sym}
use borrow.Author.Tests.{not-true, not-false}
use Rattle.path.proofs.scan.read_name.Goals as goal

pub returns-then-not-name_begins : goal.returns-then-not-name_begins
returns-then-not-name_begins c =
    no_name c.args.path.now c.args.at (sym c.name_begins.ensures ∙ not-true _ c.if-not-name_begins.true-raw)

pub returns : goal.returns
returns c =
    name-read c.args.path.now c.args.at c.run_end.result (sym c.name_begins.ensures ∙ not-false _ c.if-not-name_begins.false-raw) c.run_end.ensures
