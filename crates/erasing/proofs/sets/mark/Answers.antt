-- `mark` meets its contract: each test in the definition's order. Assumes nothing.
use native.Mathlib.Omega.{arith}
use mathlib.Core.Path.{◌≡◌, sym, ap, ◌∙◌}
use mathlib.Core.Bool.{true}
use Rattle.model.specs.Node.{culled_flag, has_flag}
use Rattle.model.specs.ArenaCalls.{ValidNode}
use Rattle.arena.specs.Slot.{flags_in}
use Rattle.arena.proofs.ReadNodes.{has-slot}
use Rattle.erasing.proofs.MarkLaws.{mark-beyond, mark-unculled, mark-specs, mark-level, mark_set}
use Rattle.erasing.proofs.sets.mark.Goals as goal

pub returns-then-n-count : goal.returns-then-n-count
returns-then-n-count c =
    mark-beyond _ _ c.requires.0 (omega (arith, c.if-n-count.true, c.requires.1))

pub flags-requires : goal.flags-requires
flags-requires c =
    let reads-it : ValidNode c.args.arena.now c.args.n =
    record { opened = c.requires.0; below = omega (arith, c.if-n-count.false, c.requires.1) } in
    has-slot _ _ reads-it

pub returns-then-not-is_culled : goal.returns-then-not-is_culled
returns-then-not-is_culled c =
    let reads-it : ValidNode c.args.arena.now c.args.n =
    record { opened = c.requires.0; below = omega (arith, c.if-n-count.false, c.requires.1) } in
    mark-unculled _ _ reads-it
    (sym (c.is_culled.ensures ∙ ap (has_flag culled_flag) c.flags.ensures) ∙ c.if-not-is_culled.true)

pub has_specs-requires : goal.has_specs-requires
has_specs-requires c =
    let reads-it : ValidNode c.args.arena.now c.args.n =
    record { opened = c.requires.0; below = omega (arith, c.if-n-count.false, c.requires.1) } in
    has-slot _ _ reads-it

pub returns-then-has_specs-eq1 : goal.returns-then-has_specs-eq1
returns-then-has_specs-eq1 c =
    let reads-it : ValidNode c.args.arena.now c.args.n =
    record { opened = c.requires.0; below = omega (arith, c.if-n-count.false, c.requires.1) } in
    let culled : has_flag culled_flag (flags_in c.args.arena.now c.args.n) ≡ true =
    sym (c.is_culled.ensures ∙ ap (has_flag culled_flag) c.flags.ensures) ∙ c.if-not-is_culled.false in
    mark-specs _ _ reads-it culled (sym c.has_specs.ensures ∙ c.if-has_specs-eq1.true)

pub depth_below-requires : goal.depth_below-requires
depth_below-requires c =
    let reads-it : ValidNode c.args.arena.now c.args.n =
    record { opened = c.requires.0; below = omega (arith, c.if-n-count.false, c.requires.1) } in
    reads-it

pub returns-then-depth_below-eq0 : goal.returns-then-depth_below-eq0
returns-then-depth_below-eq0 c =
    let reads-it : ValidNode c.args.arena.now c.args.n =
    record { opened = c.requires.0; below = omega (arith, c.if-n-count.false, c.requires.1) } in
    let culled : has_flag culled_flag (flags_in c.args.arena.now c.args.n) ≡ true =
    sym (c.is_culled.ensures ∙ ap (has_flag culled_flag) c.flags.ensures) ∙ c.if-not-is_culled.false in
    mark-level _ _ reads-it culled (λ e. c.if-has_specs-eq1.false (c.has_specs.ensures ∙ e))
    (sym c.depth_below.ensures.0 ∙ c.if-depth_below-eq0.true)

pub returns : goal.returns
returns c =
    let reads-it : ValidNode c.args.arena.now c.args.n =
    record { opened = c.requires.0; below = omega (arith, c.if-n-count.false, c.requires.1) } in
    let culled : has_flag culled_flag (flags_in c.args.arena.now c.args.n) ≡ true =
    sym (c.is_culled.ensures ∙ ap (has_flag culled_flag) c.flags.ensures) ∙ c.if-not-is_culled.false in
    mark_set _ _ reads-it culled (λ e. c.if-has_specs-eq1.false (c.has_specs.ensures ∙ e))
    (λ e. c.if-depth_below-eq0.false (c.depth_below.ensures.0 ∙ e))
