-- `sort_graph` meets its contract: where every list has an order, `write_sorted` leaves the ordered
-- graph; else nothing is written. Assumes nothing.
use mathlib.Core.Path.{refl, sym, subst, ◌∙◌}
use Prim.Native.Nat.{ℕ}
use borrow.Author.Tests.{not-true, not-false}
use Rattle.model.specs.Arena.{decode}
use Rattle.model.specs.Order.{sorted_children}
use Rattle.arena.proofs.ReadNodes.{sizes}
use Rattle.child_lists.specs.Links.{Segments}
use Rattle.ordering.proofs.writing.sort_graph.Goals as goal

pub returns-then-not-sort_children : goal.returns-then-not-sort_children
returns-then-not-sort_children c =
    record { answer = sym (not-true _ c.if-not-sort_children.true-raw) ∙ c.sort_children.ensures.answer; bytes = refl }

pub write_sorted-requires : goal.write_sorted-requires
write_sorted-requires c =
    let sorted = c.sort_children.new.sorted in
    let ends = c.sort_children.new.ends in
    let true-now = not-false _ c.if-not-sort_children.false-raw in record {
      valid_arena = (c.requires.0, c.requires.1, c.requires.2, sym c.sort_children.ensures.answer ∙ true-now);
      segments = subst (λ (n : ℕ). Segments (sorted_children (decode c.args.arena.now)) n sorted ends) (sizes c.args.arena.now c.requires.0 ∙ sym c.requires.1)
          (c.sort_children.ensures.segments true-now);
    }

pub returns : goal.returns
returns c =
    record { answer = sym (not-false _ c.if-not-sort_children.false-raw) ∙ c.sort_children.ensures.answer; bytes = c.write_sorted.ensures }
