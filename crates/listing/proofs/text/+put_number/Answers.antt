-- `put_number` meets its contract: the digits of the tenth and then the last are the number's.
-- Assumes nothing.
use mathlib.Core.Path.{sym}
use native.Mathlib.Omega.{arith}
use Rattle.listing.proofs.DecimalLaws.{number-digit, number_more, tenth-short}
use Rattle.listing.proofs.PutLaws.{put_then, put_as}
use Rattle.listing.proofs.text.+put_number.Goals as goal

pub returns-then-n-lt10 : goal.returns-then-n-lt10
returns-then-n-lt10 t c =
    put_as _ _ _ _ _ _ (sym (number-digit c.args.n c.if-n-lt10.true)) c.put_byte.ensures

pub put_byte-requires-2 : goal.put_byte-requires-2
put_byte-requires-2 t c =
    omega (
      arith,
      c.requires,
      c.put_number-last.ensures.place,
      c.put_number-last.auto.out,
      tenth-short c.args.n c.if-n-lt10.false (omega arith),
    )

pub returns : goal.returns
returns t c =
    let more = c.if-n-lt10.false in
    put_as _ _ _ _ _ _ (sym (number_more c.args.n more (omega arith)))
    (put_then _ _ _ _ _ _ _ _ c.put_number-last.ensures c.put_byte-2.ensures
    (omega (arith, c.requires, tenth-short c.args.n more (omega arith))))
