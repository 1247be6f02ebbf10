-- `last_of` meets its contract. Assumes nothing.
use Rattle.child_lists.proofs.LinkLaws.{last-of-part}
use Rattle.child_lists.proofs.links.last_of.Goals as goal

pub returns-then-start-end : goal.returns-then-start-end
returns-then-start-end c =
    last-of-part c.args.start c.args.end c.args.sorted.now c.if-start-end.true c.requires.1
