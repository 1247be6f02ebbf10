-- `root_with` meets its contract. Assumes nothing.
use mathlib.Core.Path.{sym}
use Rattle.validate.proofs.ArenaRecords.{root_kept, root-here}
use Rattle.validate.proofs.graph.root_with.Goals as goal

pub returns-then-arc-ne-ROOT : goal.returns-then-arc-ne-ROOT
returns-then-arc-ne-ROOT c =
    sym (root_kept c.args.n c.args.arc c.args.root c.if-arc-ne-ROOT.true)

pub returns : goal.returns
returns c =
    sym (root-here c.args.n c.args.arc c.args.root c.requires c.if-arc-ne-ROOT.false)
