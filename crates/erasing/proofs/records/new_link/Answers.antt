-- `new_link` meets its contract: a number below the count is looked up, any other stays. Assumes
-- nothing.
use borrow.Author.Tests.{lt-ltb, le-ltb}
use Rattle.erasing.proofs.records.new_link.Goals as goal

pub returns-then-link-count : goal.returns-then-link-count
returns-then-link-count c =
    rw (lt-ltb _ _ c.if-link-count.true)

pub returns : goal.returns
returns c =
    rw (le-ltb _ _ c.if-link-count.false)
