-- `read_behind_slash` meets its contract. The loop's invariant is `Reached`: the reading from here
-- comes to what it came to behind the first slash. The measure is what is left of the length.
-- Assumes nothing.
use native.Mathlib.Omega.{arith}
use Rattle.path.proofs.PathTables.{reached-none, reached-four}
use Rattle.path.proofs.tables.read_behind_slash.Goals as goal

pub loop-i-init : goal.loop-i-init
loop-i-init c =
    reached-none _ (omega arith)

pub loop-i-preserved : goal.loop-i-preserved
loop-i-preserved c =
    rw (c.row_of_two-in-loop-i.ensures, c.row_of_two.ensures)
    (reached-four _ c.loop-i.i c.loop-i.state c.loop-i.names c.loop-i.invariant c.loop-i-test.true
    (λ k. (c.type_inv.path k).fits))
