-- `with_culled` meets its contract: flags without bit 2 are at most 253. Assumes nothing.
use mathlib.Core.Path.{sym, ◌∙◌}
use native.Mathlib.Omega.{arith}
use Prim.Native.Nat.{◌/◌, ◌%◌}
use borrow.Author.Tests.{eqb-false}
use Rattle.validate.proofs.record.with_culled.Goals as goal

pub returns-then-is_culled : goal.returns-then-is_culled
returns-then-is_culled c =
    rw (sym c.is_culled.ensures ∙ c.if-is_culled.true)

pub overflow_add-result : goal.overflow_add-result
overflow_add-result c =
    let flags = c.args.flags in
    let clear = eqb-false (flags / 2 % 2) 1 (sym c.is_culled.ensures ∙ c.if-is_culled.false) in omega (arith, c.ranges)

pub returns : goal.returns
returns c =
    rw (sym c.is_culled.ensures ∙ c.if-is_culled.false)
