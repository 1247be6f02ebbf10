-- What ordering leaves of an arena, and what its parts leave.
use Rattle.std.specs.Prelude.{◌≡◌, Bool, true, not, cond, List, ℕ, zero, suc, ◌+◌, ◌≤◌, ◌<◌, eqb, length}
use Rattle.model.specs.Arena.{arena_bytes, first_child_in, next_sibling_in, shallow_in, tabulate, order_stored, decode, encode}
use Rattle.model.specs.Node.{invalid}
use Rattle.model.specs.Order.{has_order, ordering}
use Rattle.arena.specs.Header.{marks_stored}
use Rattle.arena.specs.Slot.{parent_in}
use Rattle.ordering.specs.declared.walking.Ahead.{Ahead}

-- ordered where every child list has an order, else as it was
pub record OrderedArena (before : List ℕ) (r : Bool) (after : List ℕ) : Type 0 where
  pub answer : r ≡ has_order (decode before)
  pub bytes : after ≡ cond r (encode (ordering (decode before)) before) before

-- finalized unless shallow
abbrev pub marks_written : List ℕ → List ℕ
marks_written bs = marks_stored true (not (eqb (shallow_in bs) 1)) (eqb (shallow_in bs) 1) bs

-- ---- The walk, by first children, next siblings and parents

-- from x, whose children are done, to the next: its sibling, or its parent's, and so on; x + 1 is
-- enough fuel, since parents are lower
abbrev pub onward : (ℕ → ℕ) → (ℕ → ℕ) → ℕ → ℕ → ℕ
onward next up zero x = invalid
onward next up (suc k) x = cond (eqb x 0) invalid (cond (eqb (next x) invalid) (onward next up k (up x)) (next x))

abbrev pub step_of : (ℕ → ℕ) → (ℕ → ℕ) → (ℕ → ℕ) → ℕ → ℕ
step_of first next up x = cond (eqb (first x) invalid) (onward next up (x + 1) x) (first x)

-- k steps from node 0
abbrev pub step_at : (ℕ → ℕ) → (ℕ → ℕ) → (ℕ → ℕ) → ℕ → ℕ
step_at first next up zero = 0
step_at first next up (suc k) = step_of first next up (step_at first next up k)

-- by the links that an arena has
abbrev pub step_in : List ℕ → ℕ → ℕ
step_in bs x = step_of (first_child_in bs) (next_sibling_in bs) (parent_in bs) x

abbrev pub way_in : List ℕ → ℕ → ℕ
way_in bs k = step_at (first_child_in bs) (next_sibling_in bs) (parent_in bs) k

-- where the walk goes on from a node is kept of it
abbrev pub Knows : List ℕ → Ahead → Type 0
Knows bs known = known.next ≡ onward (next_sibling_in bs) (parent_in bs) (known.node + 1) known.node

-- from x on up every parent is lower
pub record Climbable (bs : List ℕ) (x : ℕ) : Type 0 where
  pub whole : length bs ≡ arena_bytes
  pub within : x < 1024
  pub lower : (y : ℕ) → 0 < y → y ≤ x → parent_in bs y < y

-- the first n steps are n nodes
pub record Walkable (bs : List ℕ) (n : ℕ) : Type 0 where
  pub whole : length bs ≡ arena_bytes
  pub few : n ≤ 1024
  pub some-node : 0 < n
  pub nodes : (k : ℕ) → k < n → way_in bs k < n
  pub lower : (y : ℕ) → 0 < y → y < n → parent_in bs y < y

-- they are the order
unfoldable pub walk_stored : ℕ → List ℕ → List ℕ
walk_stored n bs = order_stored (tabulate (way_in bs) 0 n) 0 bs
