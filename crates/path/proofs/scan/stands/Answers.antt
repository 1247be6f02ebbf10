-- `stands` meets its contract: within the path its byte is compared, past it nothing stands.
-- Assumes nothing.
use borrow.Author.Tests.{lt-ltb, le-ltb}
use Rattle.path.proofs.scan.stands.Goals as goal

pub returns-then-at-path : goal.returns-then-at-path
returns-then-at-path c =
    rw (lt-ltb _ _ c.if-at-path.true)

pub returns : goal.returns
returns c =
    rw (le-ltb _ _ c.if-at-path.false)
