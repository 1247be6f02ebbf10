-- `read_path` meets its contract: the first slash, the first name, and what `read_elements` makes
-- of the rest. Assumes nothing.
use native.Mathlib.Omega.{arith}
use Rattle.path.proofs.ReadingLaws.{unrooted-fails, rooted}
use mathlib.Core.Path.{◌∙◌, sym}
use Prim.Native.Nat.{◌<◌}
use lib.ListN.{length}
use Rattle.path.proofs.scan.read_path.Goals as goal

pub returns-then-path-ne47 : goal.returns-then-path-ne47
returns-then-path-ne47 c =
    unrooted-fails c.args.path.now c.if-path-ne47.true

pub returns : goal.returns
returns c =
    let long : 1 < length c.args.path.now =
    omega arith in
    c.read_elements.ensures ∙ sym (rooted c.args.path.now long c.if-path-ne47.false ∙ c.in_ok-end.ensures.0.same 0)

pub returns-in_err-end : goal.returns-in_err-end
returns-in_err-end c =
    let long : 1 < length c.args.path.now =
    omega arith in
    rw c.from_residual.ensures (sym (rooted c.args.path.now long c.if-path-ne47.false ∙ c.in_err-end.ensures 0))
