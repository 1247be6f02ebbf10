-- `write_standing` meets its contract: the links are those of the sorted lists, so marks and walk
-- are all that is new. Assumes nothing.
use mathlib.Core.Path.{◌≡◌, sym, ap, subst, ◌∙◌}
use mathlib.Core.List.{List}
use Prim.Native.Nat.{ℕ}
use Rattle.laws.proofs.StoredLaws.{bytes-by-place}
use Rattle.ordering.specs.Ordering.{Walkable, walk_stored}
use Rattle.ordering.proofs.OrderingLaws.{Orderable, standing-has-order, linked, walkable, walk-written, links-stand}
use Rattle.ordering.proofs.writing.write_standing.Goals as goal

pub write_walk-requires : goal.write_walk-requires
write_walk-requires c =
    let ready : Orderable c.args.arena.now c.args.count =
    let bytes = bytes-by-place c.args.arena.now (λ k. (c.slice_known-1.given k).fits) in
    record {
      bytes = bytes;
      opened = c.requires.0;
      counted = c.requires.1;
      some-node = c.requires.2;
      has-order = standing-has-order c.args.arena.now bytes c.requires.0 c.requires.3;
    } in
    let marked : c.write_state.new.arena ≡ linked c.args.arena.now c.args.count ready =
    c.write_state.ensures ∙ links-stand _ _ ready c.requires.3 in
    subst (λ (s : List ℕ). Walkable s c.args.count) (sym marked) (walkable _ _ ready)

pub returns : goal.returns
returns c =
    let ready : Orderable c.args.arena.now c.args.count =
    let bytes = bytes-by-place c.args.arena.now (λ k. (c.slice_known-1.given k).fits) in
    record {
      bytes = bytes;
      opened = c.requires.0;
      counted = c.requires.1;
      some-node = c.requires.2;
      has-order = standing-has-order c.args.arena.now bytes c.requires.0 c.requires.3;
    } in
    let marked : c.write_state.new.arena ≡ linked c.args.arena.now c.args.count ready =
    c.write_state.ensures ∙ links-stand _ _ ready c.requires.3 in
    c.write_walk.ensures ∙ ap (walk_stored c.args.count) marked ∙ walk-written _ _ ready
