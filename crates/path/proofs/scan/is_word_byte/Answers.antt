-- `is_word_byte` meets its contract: the tests are the definition's, in its order. Assumes nothing.
use mathlib.Core.Path.{◌∙◌, sym}
use Rattle.model.specs.Path.{is_word_byte}
use Rattle.path.proofs.scan.is_word_byte.Goals as goal

pub returns-then-is_name_start : goal.returns-then-is_name_start
unfolding is_word_byte
returns-then-is_name_start c =
    rw (sym c.is_name_start.ensures ∙ c.if-is_name_start.true)

pub returns : goal.returns
unfolding is_word_byte
returns c =
    rw (sym c.is_name_start.ensures ∙ c.if-is_name_start.false, c.within.ensures)
