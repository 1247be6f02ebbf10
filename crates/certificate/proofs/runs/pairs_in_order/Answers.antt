-- `pairs_in_order` meets its contract. The outer loop's invariant: nothing is found, and each child
-- before `i` is before all later ones; the inner one's: nothing is found, and the child at `i` is
-- before those so far. Assumes nothing.
use Prim.Native.Nat.{◌+◌}
use native.Mathlib.Nat.{add_assoc}
use native.Mathlib.Omega.{arith}
use mathlib.Core.Path.{sym, ◌∙◌}
use lib.ListN.{get_or}
use Rattle.view.specs.View.{view_in}
use Rattle.view.proofs.ViewLaws.{legal}
use Rattle.certificate.proofs.CertificateParts.{Before, part-child, entry-readable, entry-reached, later-read, entry-root, entries-before, known-by-row}
use Rattle.certificate.proofs.SliceLaws.{each_more, each-pairs}
use Rattle.certificate.proofs.runs.pairs_in_order.Goals as goal

pub entry_of-a-requires : goal.entry_of-a-requires
entry_of-a-requires c =
    entry-readable c.requires.given.0 c.requires.part c.pairs.i (omega arith) c.pairs-test.true

pub nest_where-requires-clause-r_lt_count : goal.nest_where-requires-clause-r_lt_count
nest_where-requires-clause-r_lt_count c =
    let child = part-child c.requires.given.0.long c.requires.part c.pairs.i (omega arith) c.pairs-test.true in
    let root = entry-root (legal c.args.arena.now c.requires.given.0.opened) child c.entry_of-a.ensures in
    (omega (arith, root, c.count-count.ensures), omega (arith, c.count-count.ensures, c.requires.arena_in_bounds))

pub entry_of-b-requires : goal.entry_of-b-requires
entry_of-b-requires c =
    let here = later-read c.requires.given.0 c.requires.part c.pairs-test.true c.loop-c.c-index c.loop-c-test.true in
    rw here.1 (entry-readable c.requires.given.0 c.requires.part _ (omega arith) here.0)

pub bounds-row-r : goal.bounds-row-r
bounds-row-r c =
    let here = later-read c.requires.given.0 c.requires.part c.pairs-test.true c.loop-c.c-index c.loop-c-test.true in
    let child = part-child c.requires.given.0.long c.requires.part _ (omega arith) here.0 in
    let root = entry-root (legal c.args.arena.now c.requires.given.0.opened) child (rw here.1 at c.entry_of-b.ensures) in
    omega (arith, root, c.requires.arena_in_bounds)

pub is_before-requires : goal.is_before-requires
is_before-requires c =
    let here = later-read c.requires.given.0 c.requires.part c.pairs-test.true c.loop-c.c-index c.loop-c-test.true in (
      entry-reached c.requires.given.0 c.requires.part c.requires.given.1 c.pairs.i (omega arith) c.pairs-test.true c.entry_of-a.ensures,
      entry-reached c.requires.given.0 c.requires.part c.requires.given.1 _ (omega arith) here.0 (rw here.1 at c.entry_of-b.ensures),
    )

pub loop-c-preserved : goal.loop-c-preserved
loop-c-preserved c =
    let view = view_in c.args.arena.now in
    let places = c.args.places.now in
    let depth = c.requires.one_depth in
    let here = later-read c.requires.given.0 c.requires.part c.pairs-test.true c.loop-c.c-index c.loop-c-test.true in
    let a = c.entry_of-a.ensures in
    let b = rw here.1 at c.entry_of-b.ensures in
    let child = part-child c.requires.given.0.long c.requires.part _ (omega arith) here.0 in
    let root = entry-root (legal c.args.arena.now c.requires.given.0.opened) child b in
    let known = known-by-row a b c.nest_where.new.row c.args.uneven
    (λ e. depth e c.pairs.i (omega arith) c.pairs-test.true ∙ sym (depth e _ (omega arith) here.0))
    c.nest_where.ensures (omega (arith, root, c.count-count.ensures)) in
    record {
      none = c.loop-c.invariant.none;
      each = rw (← add_assoc (c.pairs.i + 1) c.loop-c.c-index 1)
          (each_more c.args.sorted.now (Before view places (get_or c.args.sorted.now c.pairs.i 0)) c.loop-c.invariant.each
          (entries-before a b places c.is_before.ensures c.if-not-is_before.false known));
    }

pub returns-after-pairs : goal.returns-after-pairs
returns-after-pairs c =
    λ e. each-pairs c.args.sorted.now c.args.end (omega (arith, c.requires.given.0.long, c.requires.part.high))
    (Before (view_in c.args.arena.now) c.args.places.now) c.args.start c.requires.part.low
    (λ k j l h. c.pairs.invariant.later k j l (omega arith))
