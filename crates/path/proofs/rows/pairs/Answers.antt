-- `pairs` meets its contract: the table is the definition's. Assumes nothing.
use mathlib.Core.Path.{refl}
use Rattle.path.specs.Tables.{pair_table}
use Rattle.path.proofs.rows.pairs.Goals as goal

pub returns : goal.returns
unfolding pair_table
returns c =
    refl
