-- `check_record` meets its contract: the questions in their order. Assumes nothing.
use Rattle.std.specs.Prelude.{Some}
use mathlib.Core.Path.{◌≡◌, sym, ◌∙◌}
use mathlib.Core.Bool.{true}
use borrow.Author.Tests.{not-true, not-false}
use Rattle.path.proofs.ReadingLaws.{counted-well-formed, uncounted-malformed}
use Rattle.model.specs.Path.{count_prims}
use Rattle.validate.specs.RecordCheck.{links_at}
use Rattle.validate.proofs.RecordCheckLaws.{counted-names, few-names, refused-4, refused-5, refused-6, refused-7, accepted}
use Rattle.validate.proofs.record.check_record.Goals as goal

pub returns-then-not-links_allowed : goal.returns-then-not-links_allowed
returns-then-not-links_allowed c =
    refused-4 _ _ _ _ _ (sym c.links_allowed.ensures ∙ not-true _ c.if-not-links_allowed.true-raw)

pub returns-in_default : goal.returns-in_default
returns-in_default c =
    let linked : links_at c.args.before c.args.numbers ≡ true =
    sym c.links_allowed.ensures ∙ not-false _ c.if-not-links_allowed.false-raw in
    refused-5 _ _ _ _ _ linked
    (sym (uncounted-malformed _ (sym c.requires.1 ∙ c.in_default.is)))

pub returns-then-not-kind_allowed : goal.returns-then-not-kind_allowed
returns-then-not-kind_allowed c =
    let linked : links_at c.args.before c.args.numbers ≡ true =
    sym c.links_allowed.ensures ∙ not-false _ c.if-not-links_allowed.false-raw in
    let counted : count_prims c.args.path.now ≡ Some c.in-Some.names =
    sym c.requires.1 ∙ c.in-Some.is in
    refused-6 _ _ _ _ _ linked (sym (counted-well-formed _ _ counted))
    (sym c.kind_allowed.ensures ∙ not-true _ c.if-not-kind_allowed.true-raw)

pub returns-then-not-has_room : goal.returns-then-not-has_room
returns-then-not-has_room c =
    let linked : links_at c.args.before c.args.numbers ≡ true =
    sym c.links_allowed.ensures ∙ not-false _ c.if-not-links_allowed.false-raw in
    let counted : count_prims c.args.path.now ≡ Some c.in-Some.names =
    sym c.requires.1 ∙ c.in-Some.is in
    refused-7 _ _ _ _ _ linked
    (sym (counted-well-formed _ _ counted))
    (sym c.kind_allowed.ensures ∙ not-false _ c.if-not-kind_allowed.false-raw)
    (sym c.has_room.ensures ∙ not-true _ c.if-not-has_room.true-raw)

pub narrow-requires : goal.narrow-requires
narrow-requires c =
    let counted : count_prims c.args.path.now ≡ Some c.in-Some.names =
    sym c.requires.1 ∙ c.in-Some.is in
    few-names _ _ counted

pub returns : goal.returns
returns c =
    let linked : links_at c.args.before c.args.numbers ≡ true =
    sym c.links_allowed.ensures ∙ not-false _ c.if-not-links_allowed.false-raw in
    let counted : count_prims c.args.path.now ≡ Some c.in-Some.names =
    sym c.requires.1 ∙ c.in-Some.is in
    accepted _ _ _ _ _ _ linked
    (sym (counted-well-formed _ _ counted))
    (sym c.kind_allowed.ensures ∙ not-false _ c.if-not-kind_allowed.false-raw)
    (sym c.has_room.ensures ∙ not-false _ c.if-not-has_room.false-raw)
    (c.narrow.ensures ∙ counted-names _ _ counted)
