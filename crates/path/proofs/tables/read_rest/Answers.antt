-- `read_rest` meets its contract: one pair more where two bytes are left, and then the last byte.
-- Assumes nothing.
use Prim.Native.Nat.{◌+◌}
use native.Mathlib.Omega.{arith}
use Rattle.path.proofs.PathTables.{reached-two}
use Rattle.path.proofs.tables.read_rest.Goals as goal

pub read_last-requires-2 : goal.read_last-requires-2
read_last-requires-2 c =
    let more = reached-two c.args.path.now c.args.at c.args.state c.args.names c.requires.reached c.if-path-at.false
    (c.type_inv.path c.args.at).fits (c.type_inv.path (c.args.at + 1)).fits in
    record {
      tables = c.requires.tables;
      reached = rw c.row_of_two.ensures more;
      path_len_bound = (omega (arith, c.requires.path_len_bound.0), c.requires.path_len_bound.1);
    }
