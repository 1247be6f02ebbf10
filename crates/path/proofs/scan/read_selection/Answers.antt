-- `read_selection` meets its contract: set, `=`, selection and `}` are read in turn, and each that
-- is missing fails the reading. Assumes nothing.
use borrow.Author.Tests.{not-true, not-false}
use mathlib.Core.Path.{◌≡◌, ◌∙◌, sym}
use mathlib.Core.Bool.{true}
use Rattle.model.specs.Path.{equals_sign}
use Rattle.path.specs.PathReading.{begins_name, stands_at}
use Rattle.path.proofs.ReadingLaws.{no-set, no_sign, no-brace, selection-read}
use Rattle.path.proofs.scan.read_selection.Goals as goal

pub returns-then-not-name_begins : goal.returns-then-not-name_begins
returns-then-not-name_begins c =
    no-set c.args.path.now c.args.at (sym c.name_begins.ensures ∙ not-true _ c.if-not-name_begins.true-raw)

pub returns-then-not-stands : goal.returns-then-not-stands
returns-then-not-stands c =
    let begun : begins_name c.args.path.now c.args.at ≡ true =
    sym c.name_begins.ensures ∙ not-false _ c.if-not-name_begins.false-raw in
    no_sign c.args.path.now c.args.at c.run_end-sign.result begun c.run_end-sign.ensures
    (sym c.stands.ensures ∙ not-true _ c.if-not-stands.true-raw)

pub returns-then-not-stands-2 : goal.returns-then-not-stands-2
returns-then-not-stands-2 c =
    let begun : begins_name c.args.path.now c.args.at ≡ true =
    sym c.name_begins.ensures ∙ not-false _ c.if-not-name_begins.false-raw in
    let signed : stands_at c.args.path.now c.run_end-sign.result equals_sign ≡ true =
    sym c.stands.ensures ∙ not-false _ c.if-not-stands.false-raw in
    no-brace c.args.path.now c.args.at c.run_end-sign.result begun c.run_end-sign.ensures
    signed c.run_end-last.result c.run_end-last.ensures
    (sym c.stands-2.ensures ∙ not-true _ c.if-not-stands-2.true-raw)

pub returns : goal.returns
returns c =
    let begun : begins_name c.args.path.now c.args.at ≡ true =
    sym c.name_begins.ensures ∙ not-false _ c.if-not-name_begins.false-raw in
    let signed : stands_at c.args.path.now c.run_end-sign.result equals_sign ≡ true =
    sym c.stands.ensures ∙ not-false _ c.if-not-stands.false-raw in
    selection-read c.args.path.now c.args.at c.run_end-sign.result begun c.run_end-sign.ensures
    signed c.run_end-last.result c.run_end-last.ensures
    (sym c.stands-2.ensures ∙ not-false _ c.if-not-stands-2.false-raw)
