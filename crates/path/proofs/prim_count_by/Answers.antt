-- `prim_count_by` meets its contract: what is longer than 255 bytes is no path, and the rest is
-- read. Assumes nothing.
use Rattle.path.proofs.ReadingLaws.{count-prims-long, count-prims-reads}
use mathlib.Core.Path.{◌∙◌}
use Rattle.path.proofs.prim_count_by.Goals as goal

pub returns-then-length-gt255 : goal.returns-then-length-gt255
returns-then-length-gt255 c =
    count-prims-long _ c.if-length-gt255.true

pub returns : goal.returns
returns c =
    c.read_path.ensures ∙ count-prims-reads _ c.if-length-gt255.false
