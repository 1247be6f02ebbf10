-- `check_desc` meets its contract: the check of a record, put the node with what was missing put
-- in. Assumes nothing.
use borrow.Author.Rules.{rules}
use mathlib.Core.Path.{ap}
use mathlib.Core.Bool.{not}
use Prim.Native.Nat.{ℕ}
use native.Mathlib.Omega.{arith}
use lib.Dec.{eqb}
use Rattle.nodes.proofs.DescribingLaws.{desc-checked}
use Rattle.nodes.proofs.description.check_desc.Goals as goal

pub check_record-requires : goal.check_record-requires
check_record-requires c =
    (search rules, c.prim_count.ensures)

pub returns : goal.returns
returns c =
    desc-checked c.args.arena.now c.requires.0 c.args.desc c.args.path.now (omega (arith, c.requires.1, c.requires.2)) _ _ _ _ _ _ c.requires.1
    c.path_bytes.ensures.0 (ap (λ (n : ℕ). not (eqb n 0)) c.local_root.ensures)
    c.node_or-parent.ensures c.node_or.ensures c.check_record.ensures
