-- `nest_where` meets its contract: where the row is not wanted, nothing is said of it.
-- Assumes nothing.
use mathlib.Core.Path.{sym, ◌∙◌}
use mathlib.Core.Bool.{false≢true}
use Rattle.certificate.proofs.runs.nest_where.Goals as goal

pub returns-else-wanted : goal.returns-else-wanted
returns-else-wanted c =
    λ e. absurd (false≢true (sym c.if-wanted.false ∙ e))
