-- `store_nexts` meets its contract. The invariant of its loop: the siblings after the
-- children from `at` on are stored, and `head` is the first of these. Assumes nothing.
use native.Mathlib.Omega.{arith}
use Rattle.child_lists.proofs.StoringLaws.{nexts-step}
use Rattle.child_lists.proofs.store.store_nexts.Goals as goal

pub loop-at-preserved : goal.loop-at-preserved
loop-at-preserved c = (
  omega (arith, c.loop-at-test),
  nexts-step _ _ _ _ _ _ c.loop-at.invariant.1 (omega (arith, c.loop-at-test)) c.requires.arena_len.2 _ c.store_next.ensures,
)
