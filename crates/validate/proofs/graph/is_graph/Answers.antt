-- `is_graph` meets its contract: each way out is one law of the tests. Assumes nothing.
use mathlib.Core.Path.{◌≡◌, sym, ◌∙◌}
use mathlib.Core.Bool.{true}
use Prim.Native.Nat.{◌≤◌}
use native.Mathlib.Omega.{arith}
use borrow.Author.Tests.{not-true, not-false}
use Rattle.model.specs.Arena.{count_in, state_valid}
use Rattle.validate.specs.Validate.{records_valid}
use Rattle.validate.proofs.RecordsLaws.{records-parented}
use Rattle.validate.proofs.HoldsTests.{many-nodes, marks-fail, records-fail, lists-fail, order-left}
use Rattle.validate.proofs.graph.is_graph.Goals as goal

pub returns-then-count-gt-MAX_NODES : goal.returns-then-count-gt-MAX_NODES
returns-then-count-gt-MAX_NODES c =
    sym (many-nodes _ c.requires (omega (arith, c.if-count-gt-MAX_NODES.true, c.count-count.ensures)))

pub returns-then-not-state_valid : goal.returns-then-not-state_valid
returns-then-not-state_valid c =
    let few : count_in c.args.arena.now ≤ 1024 =
    omega (arith, c.if-count-gt-MAX_NODES.false, c.count-count.ensures) in
    sym (marks-fail _ c.requires few (sym c.state_valid.ensures ∙ not-true _ c.if-not-state_valid.true-raw))

pub returns-then-not-records_valid : goal.returns-then-not-records_valid
returns-then-not-records_valid c =
    let few : count_in c.args.arena.now ≤ 1024 =
    omega (arith, c.if-count-gt-MAX_NODES.false, c.count-count.ensures) in
    let marks : state_valid c.args.arena.now ≡ true =
    sym c.state_valid.ensures ∙ not-false _ c.if-not-state_valid.false-raw in
    sym (records-fail _ c.requires few marks
    (sym c.records_valid.ensures ∙ not-true _ c.if-not-records_valid.true-raw))

pub are_valid-requires : goal.are_valid-requires
are_valid-requires c =
    let few : count_in c.args.arena.now ≤ 1024 =
    omega (arith, c.if-count-gt-MAX_NODES.false, c.count-count.ensures) in
    let records : records_valid c.args.arena.now ≡ true =
    sym c.records_valid.ensures ∙ not-false _ c.if-not-records_valid.false-raw in record { parented = records-parented _ c.requires few records; count_value = c.count-count.ensures }

pub returns-then-not-are_valid : goal.returns-then-not-are_valid
returns-then-not-are_valid c =
    let few : count_in c.args.arena.now ≤ 1024 =
    omega (arith, c.if-count-gt-MAX_NODES.false, c.count-count.ensures) in
    let marks : state_valid c.args.arena.now ≡ true =
    sym c.state_valid.ensures ∙ not-false _ c.if-not-state_valid.false-raw in
    let records : records_valid c.args.arena.now ≡ true =
    sym c.records_valid.ensures ∙ not-false _ c.if-not-records_valid.false-raw in
    sym (lists-fail _ c.requires few marks records
    (sym c.are_valid.ensures ∙ not-true _ c.if-not-are_valid.true-raw))

pub returns : goal.returns
returns c =
    let few : count_in c.args.arena.now ≤ 1024 =
    omega (arith, c.if-count-gt-MAX_NODES.false, c.count-count.ensures) in
    let marks : state_valid c.args.arena.now ≡ true =
    sym c.state_valid.ensures ∙ not-false _ c.if-not-state_valid.false-raw in
    let records : records_valid c.args.arena.now ≡ true =
    sym c.records_valid.ensures ∙ not-false _ c.if-not-records_valid.false-raw in
    c.order_valid.ensures
    ∙ sym (order-left _ c.requires few marks
    records (sym c.are_valid.ensures ∙ not-false _ c.if-not-are_valid.false-raw))
