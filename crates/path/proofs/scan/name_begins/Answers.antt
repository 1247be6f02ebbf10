-- `name_begins` meets its contract: within the path its byte is tested, past it nothing stands.
-- Assumes nothing.
use borrow.Author.Tests.{lt-ltb, le-ltb}
use Rattle.path.proofs.scan.name_begins.Goals as goal

pub returns-then-at-path : goal.returns-then-at-path
returns-then-at-path c =
    rw (lt-ltb _ _ c.if-at-path.true) c.is_name_start.ensures

pub returns : goal.returns
returns c =
    rw (le-ltb _ _ c.if-at-path.false)
