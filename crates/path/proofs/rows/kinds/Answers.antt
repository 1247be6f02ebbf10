-- `kinds` meets its contract: the table is the definition's. Assumes nothing.
use mathlib.Core.Path.{refl}
use Rattle.path.specs.Tables.{kind_list, kind_table}
use Rattle.path.proofs.rows.kinds.Goals as goal

pub returns : goal.returns
unfolding kind_table kind_list
returns c =
    refl
