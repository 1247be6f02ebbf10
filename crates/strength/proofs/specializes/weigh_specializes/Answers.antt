-- `weigh_specializes` meets its contract: the depth line settles, or the rest of the list goes on.
-- Assumes nothing.
use mathlib.Core.Path.{sym, ◌∙◌}
use Rattle.strength.proofs.SpecializesLaws.{depth-less, depth-greater, depth-passed}
use Rattle.strength.proofs.specializes.weigh_specializes.Goals as goal

pub returns-in-Less : goal.returns-in-Less
returns-in-Less c =
    depth-less _ _ _ _ (sym c.depth_line.ensures ∙ c.in-Less.is)

pub returns-in-Equal : goal.returns-in-Equal
returns-in-Equal c =
    depth-passed _ _ _ _ (sym c.depth_line.ensures ∙ c.in-Equal.is) c.weigh_origins.ensures

pub returns-in-Greater : goal.returns-in-Greater
returns-in-Greater c =
    depth-greater _ _ _ _ (sym c.depth_line.ensures ∙ c.in-Greater.is)
