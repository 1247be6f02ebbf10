-- `order_graph` meets its contract: lists that stand in order are an order of the graph; else
-- `sort_graph` decides. Assumes nothing.
use mathlib.Core.Path.{sym, subst}
use mathlib.Core.Bool.{true}
use native.Mathlib.Omega.{arith}
use Rattle.model.specs.Arena.{decode}
use Rattle.laws.proofs.StoredLaws.{bytes-by-place}
use Rattle.sorting.specs.Standing.{Stands}
use Rattle.ordering.proofs.OrderingLaws.{standing-has-order}
use Rattle.ordering.proofs.writing.order_graph.Goals as goal

pub write_standing-requires : goal.write_standing-requires
write_standing-requires c =
    let stands : Stands (decode c.args.arena.now) true =
    subst (Stands (decode c.args.arena.now)) c.if-stands.true c.stands.ensures in
    (c.requires.0, c.count-count.ensures, omega (arith, c.requires.1, c.count-count.ensures), stands)

pub returns-then-stands : goal.returns-then-stands
returns-then-stands c =
    let stands : Stands (decode c.args.arena.now) true =
    subst (Stands (decode c.args.arena.now)) c.if-stands.true c.stands.ensures in
    record {
      answer = sym (standing-has-order c.args.arena.now (bytes-by-place c.args.arena.now (λ k. (c.slice_known-1.given k).fits)) c.requires.0
          stands);
      bytes = c.write_standing.ensures;
    }

pub sort_graph-requires : goal.sort_graph-requires
sort_graph-requires c =
    (c.requires.0, c.count-count.ensures, omega (arith, c.requires.1, c.count-count.ensures))
