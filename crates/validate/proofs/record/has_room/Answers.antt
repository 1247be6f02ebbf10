-- `has_room_lem` meets its contract: what is left of the path bytes is compared, so that no sum can
-- pass its width. Assumes nothing.
use mathlib.Core.Path.{◌≡◌, refl}
use mathlib.Core.Bool.{Bool, true, false}
use Prim.Native.Nat.{ℕ, ◌+◌, ◌-◌, ◌≤◌}
use native.Mathlib.Omega.{arith}
use lib.Dec.{leb}
use borrow.Author.Tests.{lt-ltb, le-ltb, le-leb, lt-leb, leb-true, leb-false}
use Rattle.validate.proofs.record.has_room.Goals as goal

-- of 32,768 as many are left as come to it
left_over : (held more : ℕ) → held ≤ 32768 → leb more (32768 - held) ≡ leb (held + more) 32768
left_over held more fits = go (leb (held + more) 32768) refl
  where
    go : (t : Bool) → leb (held + more) 32768 ≡ t → leb more (32768 - held) ≡ t
    go true e = le-leb more (32768 - held) (omega (arith, leb-true (held + more) 32768 e))
    go false e = lt-leb more (32768 - held) (omega (arith, leb-false (held + more) 32768 e))

pub returns-then-before-ge-MAX_NODES : goal.returns-then-before-ge-MAX_NODES
returns-then-before-ge-MAX_NODES c =
    rw (le-ltb c.args.before.count 1024 c.if-before-ge-MAX_NODES.true)

pub returns : goal.returns
returns c =
    rw (lt-ltb c.args.before.count 1024 c.if-before-ge-MAX_NODES.false) (left_over c.args.before.path_bytes c.args.path_length c.requires)
