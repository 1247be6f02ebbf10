-- `records_valid` meets its contract. The loop's invariant is `RecordsTo`: the records below n are
-- right, and come to so many bytes of paths and this local root. Assumes nothing.
use mathlib.Core.Path.{sym, ◌∙◌}
use native.Mathlib.Omega.{arith}
use Rattle.validate.specs.Validate.{before_in}
use Rattle.validate.proofs.ArenaRecords.{ValidAfter, right-after}
use Rattle.validate.proofs.RecordsLaws.{record-fails, records-more, records-all}
use Rattle.validate.proofs.graph.records_valid.Goals as goal

pub returns-then-not-record_valid : goal.returns-then-not-record_valid
returns-then-not-record_valid c =
    sym (record-fails _ _ _ _ c.loop-n.invariant (omega (arith, c.loop-n-test, c.requires.1))
    (sym c.record_valid.ensures ∙ c.if-not-record_valid.true))

pub overflow_sub-path_bytes : goal.overflow_sub-path_bytes
overflow_sub-path_bytes c =
    let right : ValidAfter c.args.arena.now (before_in c.loop-n.n c.loop-n.path_bytes c.loop-n.root) =
    right-after _ _ (sym c.record_valid.ensures ∙ c.if-not-record_valid.false) in
    omega (arith, right.named, c.record_length-length.ensures)

pub loop-n-preserved : goal.loop-n-preserved
loop-n-preserved c =
    records-more _ _ _ _ c.loop-n.invariant c.requires.0 (omega (arith, c.requires)) (omega (arith, c.loop-n-test, c.requires.1)) _ _ _
    c.record_length-length.ensures c.arc.ensures c.root_with-root.ensures
    (sym c.record_valid.ensures ∙ c.if-not-record_valid.false)

pub returns : goal.returns
returns c =
    let all = records-all _ _ _ _ c.loop-n.invariant (omega (arith, c.loop-n-test, c.requires.1)) in
    c.root_valid.ensures ∙ rw c.requires.1 (sym all)
