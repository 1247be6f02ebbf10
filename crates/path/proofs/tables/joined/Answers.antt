-- `joined` meets its contract: the parts of the number are the state and the names. Assumes
-- nothing.
use native.Mathlib.Omega.{arith}
use Rattle.path.proofs.PathTables.{joined-ends}
use Rattle.path.proofs.tables.joined.Goals as goal

pub returns : goal.returns
returns c =
    (omega (arith, c.requires), joined-ends c.args.state c.args.names)
