-- `read_last` meets its contract: one step more where a byte is left, and then the end. Assumes
-- nothing.
use mathlib.Core.Path.{ap, ◌∙◌}
use Prim.Native.Nat.{ℕ, ◌+◌, ◌/◌, ◌%◌, ◌^◌}
use Rattle.path.specs.Tables.{ending}
use Rattle.path.proofs.PathTables.{reached-one, reached-end}
use Rattle.path.proofs.tables.read_last.Goals as goal

pub returns-then-path-at : goal.returns-then-path-at
returns-then-path-at c =
    record {
      small = c.joined.ensures.0;
      same = c.joined.ensures.1 ∙ reached-end _ _ _ _ c.requires.reached c.if-path-at.true;
    }

pub returns : goal.returns
returns c =
    let more = reached-one _ _ _ _ c.requires.reached c.if-path-at.false (c.type_inv.path c.args.at).fits in
    record {
      small = c.joined-2.ensures.0;
      same = c.joined-2.ensures.1
          ∙ ap (λ (row : ℕ). ending (row / 2 ^ (c.args.state % 64)) (c.args.names + row / 2 ^ (c.args.state % 64) / 64 % 2)) c.row_of_one.ensures
          ∙ reached-end _ _ _ _ more c.requires.path_len_bound.0;
    }
