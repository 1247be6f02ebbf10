-- `walking::look_ahead` meets its contract: climbing from a node leads to its sibling, or where it
-- does from its parent. Assumes nothing.
use mathlib.Core.Path.{sym, ap, ◌∙◌}
use Prim.Native.Nat.{ℕ, ◌+◌}
use native.Mathlib.Omega.{arith}
use Rattle.model.specs.Arena.{next_sibling_in}
use Rattle.arena.specs.Slot.{parent_in}
use Rattle.ordering.specs.Ordering.{onward}
use Rattle.ordering.proofs.ClimbLaws.{onward-up, onward-out}
use Rattle.ordering.proofs.walking.look_ahead.Goals as goal

pub returns-then-sibling : goal.returns-then-sibling
returns-then-sibling c =
    let e = c.next_sibling-sibling.ensures in
    e ∙ onward-out (next_sibling_in c.args.arena.now) (parent_in c.args.arena.now) c.args.x c.requires.0.lower c.args.x c.if-x-eq0.false (λ none. c.if-sibling.true (e ∙ none))

pub returns : goal.returns
returns c =
    let next = next_sibling_in c.args.arena.now in
    let up = parent_in c.args.arena.now in
    c.requires.1
    ∙ ap (λ (k : ℕ). onward next up (k + 1) k) (sym c.if-parent-known.false ∙ c.parent.ensures)
    ∙ onward-up next up c.args.x c.requires.0.lower c.args.x c.if-x-eq0.false (omega arith) (sym c.next_sibling-sibling.ensures ∙ c.if-sibling.false)
