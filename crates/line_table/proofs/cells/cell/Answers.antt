-- `cell` meets its contract: a cell is 16 bits wide. Assumes nothing.
use mathlib.Core.Path.{refl}
use Prim.Native.Nat.{◌+◌, ◌*◌}
use native.Mathlib.Omega.{arith}
use Rattle.line_table.proofs.cells.cell.Goals as goal

pub overflow_cast-result-2 : goal.overflow_cast-result-2
overflow_cast-result-2 c =
    omega (arith, c.type_inv.table (c.args.n * 16 + c.args.k))

pub returns : goal.returns
returns c =
    record { same = refl; fits = omega (arith, c.type_inv.table (c.args.n * 16 + c.args.k)) }
