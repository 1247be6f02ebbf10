-- `has_two_depths` meets its contract. The loop's invariant: the children so far have the first
-- one's depth. Assumes nothing.
use mathlib.Core.Path.{◌≡◌, sym, ◌∙◌}
use Prim.Native.Nat.{ℕ}
use native.Mathlib.Nat.{add_assoc}
use native.Mathlib.Omega.{arith}
use lib.ListN.{get_or}
use Rattle.view.specs.View.{view_in}
use Rattle.certificate.proofs.CertificateParts.{entry-readable, entry-depth}
use Rattle.certificate.proofs.SliceLaws.{each_more, part-read}
use Rattle.certificate.proofs.runs.has_two_depths.Goals as goal

pub entry_of-first-requires : goal.entry_of-first-requires
entry_of-first-requires c =
    entry-readable c.requires.given c.requires.part.0 c.args.start (omega arith) c.requires.part.1

pub entry_of-e-requires : goal.entry_of-e-requires
entry_of-e-requires c =
    let part = c.requires.part.0 in
    let here = part-read c.args.sorted.now c.args.start c.args.end part.low (omega (arith, c.requires.given.long, part.high)) c.loop-c.c-index c.loop-c-test.true in
    rw here.1 (entry-readable c.requires.given part _ (omega arith) here.0)

pub loop-c-preserved : goal.loop-c-preserved
loop-c-preserved c =
    let part = c.requires.part.0 in
    let depth = (view_in c.args.arena.now).depth in
    let here = part-read c.args.sorted.now c.args.start c.args.end part.low (omega (arith, c.requires.given.long, part.high)) c.loop-c.c-index c.loop-c-test.true in
    rw (← add_assoc c.args.start c.loop-c.c-index 1)
    (each_more c.args.sorted.now (λ (n : ℕ). depth n ≡ depth (get_or c.args.sorted.now c.args.start 0)) c.loop-c.invariant
    (sym (entry-depth (rw here.1 at c.entry_of-e.ensures)) ∙ c.if-e-depth.false ∙ entry-depth c.entry_of-first.ensures))
