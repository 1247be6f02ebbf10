-- `row_of_two` meets its contract: the kinds that the table has are below 8, so the row is there.
-- Assumes nothing.
use Prim.Native.Nat.{ℕ, ◌+◌, ◌*◌}
use mathlib.Core.Path.{ap, ◌∙◌}
use native.Mathlib.Omega.{arith}
use lib.ListN.{get_or}
use Rattle.path.specs.Tables.{kind_of}
use Rattle.path.proofs.PathTables.{kinds-long, pairs-long, kind-read, kind_fits, nine-read, nine-fits, row_read}
use Rattle.path.proofs.tables.row_of_two.Goals as goal

pub bounds-kinds-a : goal.bounds-kinds-a
bounds-kinds-a c =
    omega (arith, kinds-long _ _ c.requires)

pub bounds-kinds-b : goal.bounds-kinds-b
bounds-kinds-b c =
    omega (arith, kinds-long _ _ c.requires)

pub bounds-pairs-kinds : goal.bounds-pairs-kinds
bounds-pairs-kinds c =
    omega (arith, nine-fits _ _ c.requires c.args.a (omega arith), kind_fits _ _ c.requires c.args.b (omega arith), pairs-long _ _ c.requires)

pub returns : goal.returns
returns c =
    ap (λ (k : ℕ). get_or c.args.pairs.now (k + get_or c.args.kinds.now c.args.b 0) 0) (nine-read _ _ c.requires c.args.a (omega arith))
    ∙ ap (λ (l : ℕ). get_or c.args.pairs.now (kind_of c.args.a * 9 + l) 0) (kind-read _ _ c.requires c.args.b)
    ∙ row_read _ _ c.requires (kind_of c.args.a) (kind_of c.args.b)
