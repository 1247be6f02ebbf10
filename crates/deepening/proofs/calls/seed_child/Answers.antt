-- `seed_child` meets its contract: question 1 of the arena that is filled, and where no question of
-- the other refuses, it is filled. Assumes nothing.
use Rattle.std.proofs.lemmas.Result.{err_from_is_err_and}
use mathlib.Core.Path.{◌≡◌}
use Rattle.model.specs.Refusals.{refusal}
use Rattle.deepening.proofs.ChildNameLaws.{asked, can-deepen, seed-not-arena, seed-refused, seed-done}
use Rattle.deepening.proofs.calls.seed_child.Goals as goal

pub returns-then-into-ne-ARENA_BYTES : goal.returns-then-into-ne-ARENA_BYTES
returns-then-into-ne-ARENA_BYTES c =
    seed-not-arena _ _ _ c.if-into-ne-ARENA_BYTES.true

pub seed-requires : goal.seed-requires
seed-requires c =
    let passes : 0 ≡ refusal (asked c.args.child.now c.args.from.now) =
    rw c.in_ok-ask.was at c.ask.ensures in
    (can-deepen _ _ passes _ c.last_name.ensures, c.if-into-ne-ARENA_BYTES.false)

pub returns : goal.returns
returns c =
    let passes : 0 ≡ refusal (asked c.args.child.now c.args.from.now) =
    rw c.in_ok-ask.was at c.ask.ensures in
    seed-done _ _ _ c.if-into-ne-ARENA_BYTES.false passes _ c.last_name.ensures _ c.seed.ensures

pub returns-in_err-ask : goal.returns-in_err-ask
returns-in_err-ask c =
    let p = err_from_is_err_and c.from_residual.result c.from_residual.ensures.1 in
    rw (p.1, p.2) (
    seed-refused _ _ _ c.if-into-ne-ARENA_BYTES.false c.in_err-ask.field-0.0 c.in_err-ask.ensures)
