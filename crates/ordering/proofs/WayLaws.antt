-- Storing the walk while it is walked: an order entry is no link, so each step is the one that the
-- arena had at first (`SameLinks`); and the state of `write_walk`'s loop (`Walking`), with its
-- step and its end. Assumes nothing.
use mathlib.Core.Path.{◌≡◌, refl, sym, ap, ◌∙◌, fun_ext}
use mathlib.Core.Logic.{inl, inr}
use mathlib.Core.List.{List, [], ◌∷◌}
use Prim.Native.Nat.{ℕ, suc, ◌+◌, ◌-◌, ◌≤◌, ◌<◌}
use native.Mathlib.Omega.{arith}
use lib.ListN.{length}
use Rattle.model.specs.Arena.{arena_bytes, slot_at, first_child_in, next_sibling_in, tabulate, order_stored}
use Rattle.model.specs.Snapshot.{big_endian, value}
use Rattle.laws.proofs.StoredLaws.{length-stored}
use Rattle.arena.specs.Slot.{parent_in, order_entry_stored}
use Rattle.arena.proofs.ArenaParts.{apart-kept, apart-slots}
use Rattle.ordering.specs.declared.walking.Ahead.{Ahead}
use Rattle.ordering.specs.Ordering.{onward, step_of, step_at, step_in, way_in, Knows, Climbable, Walkable, walk_stored}

pub record SameLinks (bs s : List ℕ) : Type 0 where
  pub first : (x : ℕ) → first_child_in s x ≡ first_child_in bs x
  pub next : (x : ℕ) → next_sibling_in s x ≡ next_sibling_in bs x
  pub parent : (x : ℕ) → parent_in s x ≡ parent_in bs x

same-links-self : (bs : List ℕ) → SameLinks bs bs
same-links-self bs = record { first = λ x. refl; next = λ x. refl; parent = λ x. refl }

same-links-trans : (bs s t : List ℕ) → SameLinks bs s → SameLinks s t → SameLinks bs t
same-links-trans bs s t a b = record {
  first = λ x. b.first x ∙ a.first x;
  next = λ x. b.next x ∙ a.next x;
  parent = λ x. b.parent x ∙ a.parent x;
}

module _ (s : List ℕ) (k entry : ℕ) (whole : length s ≡ arena_bytes) (few : k < 1024) where
  entry_length : length (order_entry_stored k entry s) ≡ arena_bytes
  entry_length = length-stored (slot_at k + 12) (big_endian 4 entry) s (omega arith) ∙ whole

  entry-same-links : SameLinks s (order_entry_stored k entry s)
  entry-same-links = record {
    first = λ x. ap value
        (apart-kept (slot_at k + 12) (big_endian 4 entry) s (slot_at x) 4 (omega arith)
        (apart-slots x (slot_at x) 4 k (slot_at k + 12) 4 (omega arith) (omega arith) (omega arith) (omega arith) (λ e. inl (omega arith))));
    next = λ x. ap value
        (apart-kept (slot_at k + 12) (big_endian 4 entry) s (slot_at x + 8) 4 (omega arith)
        (apart-slots x (slot_at x + 8) 4 k (slot_at k + 12) 4 (omega arith) (omega arith) (omega arith) (omega arith) (λ e. inl (omega arith))));
    parent = λ x. ap value
        (apart-kept (slot_at k + 12) (big_endian 4 entry) s (slot_at x + 29) 4 (omega arith)
        (apart-slots x (slot_at x + 29) 4 k (slot_at k + 12) 4 (omega arith) (omega arith) (omega arith) (omega arith) (λ e. inr (omega arith))));
  }

pub order-same-links : (ns : List ℕ) (at : ℕ) (s : List ℕ) → length s ≡ arena_bytes → at + length ns ≤ 1024 → SameLinks s (order_stored ns at s)
order-same-links [] at s whole few = same-links-self s
order-same-links (n ∷ ns) at s whole few =
    same-links-trans s (order_entry_stored at n s) (order_stored ns (suc at) (order_entry_stored at n s)) (entry-same-links s at n whole (omega arith))
    (order-same-links ns (suc at) (order_entry_stored at n s) (entry_length s at n whole (omega arith)) (omega arith))

module _ (bs s : List ℕ) (same : SameLinks bs s) where
  step_same : (x : ℕ) → step_in s x ≡ step_in bs x
  step_same x = λ i. step_of (fun_ext same.first i) (fun_ext same.next i) (fun_ext same.parent i) x

  onward-same : (k x : ℕ) → onward (next_sibling_in s) (parent_in s) k x ≡ onward (next_sibling_in bs) (parent_in bs) k x
  onward-same k x = λ i. onward (fun_ext same.next i) (fun_ext same.parent i) k x

  way_same : (k : ℕ) → way_in s k ≡ way_in bs k
  way_same k = λ i. step_at (fun_ext same.first i) (fun_ext same.next i) (fun_ext same.parent i) k

-- ---- Node 0 first

-- the nodes after node 0 stored
abbrev rest_stored : ℕ → List ℕ → List ℕ
rest_stored count bs = order_stored (tabulate (way_in bs) 1 (count - 1)) 1 bs

module _ (before : List ℕ) (count : ℕ) (ready : Walkable before count) (after : List ℕ) (e : after ≡ order_entry_stored 0 0 before) where
  begun-links : SameLinks before after
  begun-links = rw e (entry-same-links before 0 0 ready.whole (omega arith))

  pub walk-begun : Walkable after count
  walk-begun = record {
    whole = ap length e ∙ entry_length before 0 0 ready.whole (omega arith);
    few = ready.few;
    some-node = ready.some-node;
    nodes = λ k h. omega (arith, way_same before after begun-links k, ready.nodes k h);
    lower = λ y some h. omega (arith, begun-links.parent y, ready.lower y some h);
  }

  pub walk-ended : rest_stored count after ≡ walk_stored count before
  unfolding walk_stored
  walk-ended =
      (λ i. order_stored (tabulate (fun_ext (way_same before after begun-links) i) 1 (count - 1)) 1 (e i))
      ∙ ap (λ (k : ℕ). order_stored (tabulate (way_in before) 0 k) 0 before) (let more : suc (count - 1) ≡ count = omega (arith, ready.some-node) in more)

-- ---- The loop

-- `at` steps lead to x, and all nodes up to it are stored
pub record Walking (before : List ℕ) (count : ℕ) (arena : List ℕ) (x at : ℕ) : Type 0 where
  pub high : at < count
  pub long : length arena ≡ arena_bytes
  pub links : SameLinks before arena
  pub here : x ≡ way_in before at
  pub same : order_stored (tabulate (way_in before) (suc at) (count - suc at)) (suc at) arena ≡ rest_stored count before

module _ (before : List ℕ) (count : ℕ) (ready : Walkable before count) where
  module _ (arena : List ℕ) (x at : ℕ) (w : Walking before count arena x at) where
    pub walking-node : x < count
    walking-node = omega (arith, w.here, ready.nodes at w.high)

    pub walking-climbs : Climbable arena x
    walking-climbs = record {
      whole = w.long;
      within = omega (arith, walking-node, ready.few);
      lower = λ y some h. omega (arith, w.links.parent y, ready.lower y some (omega (arith, walking-node)));
    }

    pub walking-knows : (known : Ahead) → Knows before known → Knows arena known
    walking-knows known h = h ∙ sym (onward-same before arena w.links (known.node + 1) known.node)

    pub walking-learns : (known : Ahead) → Knows arena known → Knows before known
    walking-learns known h = h ∙ onward-same before arena w.links (known.node + 1) known.node

    pub walking-step : (after : List ℕ) (y : ℕ) → suc at < count → y ≡ step_in arena x → after ≡ order_entry_stored (at + 1) y arena
        → Walking before count after y (at + 1)
    walking-step after y more e stores =
        rw (stores, let next : at + 1 ≡ suc at = omega arith in next) (record {
          high = more;
          long = entry_length arena (suc at) y w.long (omega (arith, ready.few));
          links = same-links-trans before arena (order_entry_stored (suc at) y arena) w.links
              (entry-same-links arena (suc at) y w.long (omega (arith, ready.few)));
          here = led;
          same = ap
              (λ (z : ℕ). order_stored (tabulate (way_in before) (suc (suc at)) (count - (suc (suc at)))) (suc (suc at)) (order_entry_stored (suc at) z arena)) led
              ∙ ap (λ (k : ℕ). order_stored (tabulate (way_in before) (suc at) k) (suc at) arena)
              (let less : suc (count - suc (suc at)) ≡ count - suc at = omega arith in less) ∙ w.same;
        })
      where
        led : y ≡ way_in before (suc at)
        led = e ∙ step_same before arena w.links x ∙ ap (step_in before) w.here

    pub walking-end : count ≤ suc at → arena ≡ rest_stored count before
    walking-end done =
        ap (λ (k : ℕ). order_stored (tabulate (way_in before) (suc at) k) (suc at) arena) (let none : 0 ≡ count - suc at = omega arith in none) ∙ w.same
