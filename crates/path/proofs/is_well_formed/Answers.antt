-- `is_well_formed` meets its contract: a path is what has a count. Assumes nothing.
use Rattle.std.specs.Prelude.{is_some}
use Rattle.path.proofs.ReadingLaws.{is-counted}
use mathlib.Core.Path.{◌∙◌, ap}
use Rattle.path.proofs.is_well_formed.Goals as goal

pub returns : goal.returns
returns c =
    c.is_some.ensures ∙ ap is_some c.prim_count.ensures ∙ is-counted c.args.path.now
