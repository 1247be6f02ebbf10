-- `row_of_one` meets its contract: the kind that the table has is below 8, so the row is there.
-- Assumes nothing.
use Prim.Native.Nat.{ℕ, ◌+◌}
use mathlib.Core.Path.{ap, ◌∙◌}
use native.Mathlib.Omega.{arith}
use lib.ListN.{get_or}
use Rattle.path.specs.Tables.{kind_of, no_byte}
use Rattle.path.proofs.PathTables.{kinds-long, pairs-long, nine-read, nine-fits, row_read}
use Rattle.path.proofs.tables.row_of_one.Goals as goal

pub bounds-kinds-b : goal.bounds-kinds-b
bounds-kinds-b c =
    omega (arith, kinds-long _ _ c.requires)

pub bounds-pairs-kinds : goal.bounds-pairs-kinds
bounds-pairs-kinds c =
    omega (arith, nine-fits _ _ c.requires c.args.b (omega arith), pairs-long _ _ c.requires)

pub returns : goal.returns
returns c =
    ap (λ (k : ℕ). get_or c.args.pairs.now (k + no_byte) 0) (nine-read _ _ c.requires c.args.b (omega arith))
    ∙ row_read _ _ c.requires (kind_of c.args.b) no_byte
