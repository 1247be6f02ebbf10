-- `check_one` meets its contract: the numbers that it takes are the record's. Assumes nothing.
use mathlib.Core.Path.{sym, ◌∙◌}
use native.Mathlib.Omega.{arith}
use Rattle.snapshot.proofs.FieldLaws.{taken}
use Rattle.snapshot.proofs.CheckLaws.{one-checked}
use Rattle.snapshot.proofs.checks.check_one.Goals as goal

pub returns : goal.returns
returns c =
    let body = c.args.body.now in
    one-checked body c.args.before _ c.check_record.result (omega (arith, c.requires.in_bounds.0))
    (taken 0 1 body _ (sym c.take_u8.ensures ∙ c.in-Some.is)).1
    (taken 1 1 body _ (sym c.take_u8-2.ensures ∙ c.in-Some-take_u8.is)).1
    (taken 10 4 body _ (sym c.take_u32.ensures ∙ c.in-Some-take_u32.is)).1
    (taken 14 4 body _ (sym c.take_u32-2.ensures ∙ c.in-Some-take_u32-2.is)).1
    (taken 26 1 body _ (sym c.take_u8-3.ensures ∙ c.in-Some-take_u8-2.is)).1
    c.check_record.ensures
