-- `in_run` meets its contract: the tests are the definitions', in their order. Assumes nothing.
use borrow.Author.Tests.{not-true, not-false, eq-eqb, ne_eqb}
use mathlib.Core.Path.{◌≡◌, ◌∙◌, sym}
use mathlib.Core.Bool.{Bool, true, false, ◌||◌, ◌&&◌}
use Prim.Native.Nat.{ℕ}
use lib.Dec.{eqb}
use Rattle.model.specs.Path.{is_word_byte, is_selection_byte}
use Rattle.path.specs.PathReading.{in_run}
use Rattle.path.proofs.scan.in_run.Goals as goal

-- a word byte is of either run, and another of a selection alone
word-in-run : (t : Bool) (b : ℕ) → is_word_byte b ≡ true → in_run t b ≡ true
unfolding is_selection_byte
word-in-run true b e = rw e
word-in-run false b e = e

other-in-run : (t : Bool) (b : ℕ) → is_word_byte b ≡ false → in_run t b ≡ (t && (eqb b 0x2d || eqb b 0x7c))
unfolding is_selection_byte
other-in-run true b e = rw e
other-in-run false b e = e

pub returns-then-is_word_byte : goal.returns-then-is_word_byte
returns-then-is_word_byte c =
    sym (word-in-run c.args.selection c.args.b (sym c.is_word_byte.ensures ∙ c.if-is_word_byte.true))

pub returns-then-not-selection : goal.returns-then-not-selection
returns-then-not-selection c =
    rw (other-in-run c.args.selection c.args.b (sym c.is_word_byte.ensures ∙ c.if-is_word_byte.false), not-true c.args.selection c.if-not-selection.true-raw)

pub returns-then-b-eq45 : goal.returns-then-b-eq45
returns-then-b-eq45 c =
    rw (
      other-in-run c.args.selection c.args.b (sym c.is_word_byte.ensures ∙ c.if-is_word_byte.false),
      not-false c.args.selection c.if-not-selection.false-raw,
      eq-eqb _ _ c.if-b-eq45.true,
    )

pub returns : goal.returns
returns c =
    rw (
      other-in-run c.args.selection c.args.b (sym c.is_word_byte.ensures ∙ c.if-is_word_byte.false),
      not-false c.args.selection c.if-not-selection.false-raw,
      ne_eqb _ _ c.if-b-eq45.false,
    )
