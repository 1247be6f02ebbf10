-- `put` meets its contract. Assumes nothing.
use mathlib.Core.Path.{refl}
use Rattle.line_table.proofs.TableCells.{store}
use Rattle.line_table.proofs.cells.put.Goals as goal

pub returns : goal.returns
returns c =
    store c.requires.below _ c.requires.column refl c.requires.value.same c.requires.filled
