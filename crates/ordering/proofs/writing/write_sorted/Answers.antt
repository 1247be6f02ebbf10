-- `write_sorted` meets its contract: the links of the sorted lists are the ordered graph's, and so
-- is the walk. Assumes nothing.
use mathlib.Core.Path.{◌≡◌, sym, ap, subst, ◌∙◌}
use mathlib.Core.List.{List}
use Prim.Native.Nat.{ℕ}
use Rattle.laws.proofs.BigEndianLaws.{Bytes}
use Rattle.laws.proofs.StoredLaws.{bytes-by-place}
use Rattle.child_lists.specs.Links.{lists_stored}
use Rattle.ordering.specs.Ordering.{Walkable, walk_stored}
use Rattle.ordering.proofs.OrderingLaws.{Orderable, few, linked, walkable, walk-written, parted, lists-stored}
use Rattle.ordering.proofs.writing.write_sorted.Goals as goal

pub store_lists-requires : goal.store_lists-requires
store_lists-requires c =
    let ready : Orderable c.args.arena.now c.args.count =
    record {
      bytes = bytes-by-place c.args.arena.now (λ k. (c.slice_known-1.given k).fits);
      opened = c.requires.valid_arena.0;
      counted = c.requires.valid_arena.1;
      some-node = c.requires.valid_arena.2;
      has-order = c.requires.valid_arena.3;
    } in
    (c.write_state.auto.arena ∙ c.requires.valid_arena.0.whole, few _ _ ready, parted _ _ ready _ _ c.requires.segments)

pub write_walk-requires : goal.write_walk-requires
write_walk-requires c =
    let ready : Orderable c.args.arena.now c.args.count =
    record {
      bytes = bytes-by-place c.args.arena.now (λ k. (c.slice_known-1.given k).fits);
      opened = c.requires.valid_arena.0;
      counted = c.requires.valid_arena.1;
      some-node = c.requires.valid_arena.2;
      has-order = c.requires.valid_arena.3;
    } in
    let stored : c.store_lists.new.arena ≡ linked c.args.arena.now c.args.count ready =
    let marked = c.write_state.ensures in
    c.store_lists.ensures ∙ ap (lists_stored c.args.sorted.now c.args.ends.now c.args.count) marked
    ∙ lists-stored _ _ ready _ _ c.requires.segments
    (subst Bytes marked (bytes-by-place c.write_state.new.arena (λ i. (c.slice_known-2-1.given i).fits))) in
    subst (λ (s : List ℕ). Walkable s c.args.count) (sym stored) (walkable _ _ ready)

pub returns : goal.returns
returns c =
    let ready : Orderable c.args.arena.now c.args.count =
    record {
      bytes = bytes-by-place c.args.arena.now (λ k. (c.slice_known-1.given k).fits);
      opened = c.requires.valid_arena.0;
      counted = c.requires.valid_arena.1;
      some-node = c.requires.valid_arena.2;
      has-order = c.requires.valid_arena.3;
    } in
    let stored : c.store_lists.new.arena ≡ linked c.args.arena.now c.args.count ready =
    let marked = c.write_state.ensures in
    c.store_lists.ensures ∙ ap (lists_stored c.args.sorted.now c.args.ends.now c.args.count) marked
    ∙ lists-stored _ _ ready _ _ c.requires.segments
    (subst Bytes marked (bytes-by-place c.write_state.new.arena (λ i. (c.slice_known-2-1.given i).fits))) in
    c.write_walk.ensures ∙ ap (walk_stored c.args.count) stored ∙ walk-written _ _ ready
