-- `read_path` meets its contract: only `/` is a path that has no name behind its first slash.
-- Assumes nothing.
use mathlib.Core.Path.{sym, ◌∙◌}
use native.Mathlib.Omega.{arith}
use Rattle.path.proofs.ReadingLaws.{empty-fails, unrooted-fails, only-root, rooted}
use Rattle.path.proofs.tables.read_path.Goals as goal

pub returns-then-path-eq0 : goal.returns-then-path-eq0
returns-then-path-eq0 c =
    empty-fails c.args.path.now c.if-path-eq0.true

pub returns-then-path-ne47 : goal.returns-then-path-ne47
returns-then-path-ne47 c =
    unrooted-fails c.args.path.now c.if-path-ne47.true

pub returns-then-path-eq1 : goal.returns-then-path-eq1
returns-then-path-eq1 c =
    only-root c.args.path.now c.if-path-eq1.true c.if-path-ne47.false

pub returns : goal.returns
returns c =
    c.ended.ensures ∙ c.read_behind_slash.ensures.same
    ∙ sym (rooted c.args.path.now (omega (arith, c.if-path-eq1.false, c.if-path-eq0.false)) c.if-path-ne47.false)
