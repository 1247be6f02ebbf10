-- `record_valid` meets its contract: the record's length, then its numbers, its depth and its path.
-- Assumes nothing.
use mathlib.Core.Path.{◌≡◌, sym, ap, ◌∙◌}
use mathlib.Core.Bool.{true}
use native.Mathlib.Omega.{arith}
use lib.ListN.{length}
use borrow.Author.Tests.{not-true, not-false}
use Rattle.model.specs.Path.{count_prims}
use Rattle.arena.specs.Slot.{HasPath}
use Rattle.arena.proofs.SlotLaws.{path-length}
use Rattle.path.specs.Tables.{is_names}
use Rattle.validate.specs.Validate.{numbers_valid}
use Rattle.validate.proofs.ArenaRecords.{too_short, too_long, numbers-lower, numbers-wrong, depth-wrong, names-left}
use Rattle.validate.proofs.graph.record_valid.Goals as goal

pub returns-then-length : goal.returns-then-length
returns-then-length c =
    sym (too_short _ _ (omega (arith, c.if-length.true, c.requires.has_slot.1)))

pub returns-then-length-2 : goal.returns-then-length-2
returns-then-length-2 c =
    sym (too_long _ _ (omega (arith, c.if-length.false, c.requires.has_slot.1)) (omega (arith, c.if-length-2.true, c.requires.has_slot.1)))

pub returns-then-not-numbers_valid : goal.returns-then-not-numbers_valid
returns-then-not-numbers_valid c =
    let fits : HasPath c.args.arena.now c.args.before.count =
    record { slot = c.requires.has_slot.0; numbered = omega (arith, c.if-length.false, c.requires.has_slot.1); short = omega (arith, c.if-length-2.false, c.requires.has_slot.1) } in
    sym (numbers-wrong _ _ fits (omega (arith, c.if-length.false, c.requires.has_slot.1)) (sym c.numbers_valid.ensures ∙ not-true _ c.if-not-numbers_valid.true-raw))

pub depth_valid-requires : goal.depth_valid-requires
depth_valid-requires c =
    let numbered : numbers_valid c.args.arena.now c.args.before ≡ true =
    sym c.numbers_valid.ensures ∙ not-false _ c.if-not-numbers_valid.false-raw in
    let same = c.parent-parent.ensures in
    (c.requires.has_slot.0, same, λ l. omega (arith, numbers-lower _ _ numbered l, same))

pub returns-then-not-depth_valid : goal.returns-then-not-depth_valid
returns-then-not-depth_valid c =
    let fits : HasPath c.args.arena.now c.args.before.count =
    record { slot = c.requires.has_slot.0; numbered = omega (arith, c.if-length.false, c.requires.has_slot.1); short = omega (arith, c.if-length-2.false, c.requires.has_slot.1) } in
    let numbered : numbers_valid c.args.arena.now c.args.before ≡ true =
    sym c.numbers_valid.ensures ∙ not-false _ c.if-not-numbers_valid.false-raw in
    sym (depth-wrong _ _ fits (omega (arith, c.if-length.false, c.requires.has_slot.1)) numbered
    (sym c.depth_valid.ensures ∙ not-true _ c.if-not-depth_valid.true-raw))

pub has_names-requires : goal.has_names-requires
has_names-requires c =
    let fits : HasPath c.args.arena.now c.args.before.count =
    record { slot = c.requires.has_slot.0; numbered = omega (arith, c.if-length.false, c.requires.has_slot.1); short = omega (arith, c.if-length-2.false, c.requires.has_slot.1) } in
    let long = path-length c.args.arena.now c.args.before.count fits in
    let same = ap length c.path.ensures in record { tables = c.requires.tables; in_bounds = (omega (arith, long, same, c.if-length.false, c.requires.has_slot.1), omega (arith, long, same, c.if-length-2.false, c.requires.has_slot.1)) }

pub returns : goal.returns
returns c =
    let fits : HasPath c.args.arena.now c.args.before.count =
    record { slot = c.requires.has_slot.0; numbered = omega (arith, c.if-length.false, c.requires.has_slot.1); short = omega (arith, c.if-length-2.false, c.requires.has_slot.1) } in
    let numbered : numbers_valid c.args.arena.now c.args.before ≡ true =
    sym c.numbers_valid.ensures ∙ not-false _ c.if-not-numbers_valid.false-raw in
    c.has_names.ensures ∙ (λ i. is_names (c.prim_count-prims.ensures i) (count_prims (c.path.ensures i)))
    ∙ sym (names-left _ _ fits (omega (arith, c.if-length.false, c.requires.has_slot.1)) numbered
    (sym c.depth_valid.ensures ∙ not-false _ c.if-not-depth_valid.false-raw))
