-- The tests together are question 2: `holds-tests`. Assumes nothing.
use mathlib.Core.Path.{◌≡◌, refl, sym, ◌∙◌}
use mathlib.Core.Bool.{Bool, true, false, ◌||◌, ◌&&◌, and-eq-true_iff}
use mathlib.Core.List.{List}
use Prim.Native.Nat.{ℕ, ◌≤◌, ◌<◌}
use native.Mathlib.Omega.{arith}
use lib.Dec.{eqb, leb}
use lib.ListN.{length}
use borrow.Author.Tests.{eq-eqb, eqb-false, leb-true, le-leb, lt-leb}
use Rattle.model.specs.Lists.{all_below}
use Rattle.model.specs.Arena.{arena_bytes, count_in, ordered_in, chain_valid, in_chain_once, in_order_once, state_valid, node_valid, holds_graph}
use Rattle.laws.proofs.ListLaws.{all-below}
use Rattle.laws.proofs.SnapshotLaws.{and_first, and_second}
use Rattle.child_lists.specs.ChildLists.{listed_valid, child_lists_valid}
use Rattle.validate.specs.Validate.{entered_once, entries_valid, order_valid, records_valid}
use Rattle.validate.proofs.RecordsLaws.{RecordsHeld, records-held}

same_truth : (a b : Bool) → (a ≡ true → b ≡ true) → (b ≡ true → a ≡ true) → a ≡ b
same_truth true b there back = sym (there refl)
same_truth false true there back = back refl
same_truth false false there back = refl

module _ (bs : List ℕ) where
  -- an order that is marked 1, or not at all, is tested as a whole
  order-each : ordered_in bs ≤ 1 → (order_valid bs ≡ true → (n : ℕ) → n < count_in bs → (eqb (ordered_in bs) 0 || in_order_once bs n) ≡ true)
      × (((n : ℕ) → n < count_in bs → (eqb (ordered_in bs) 0 || in_order_once bs n) ≡ true) → order_valid bs ≡ true)
  unfolding order_valid entries_valid
  order-each marked = go (eqb (ordered_in bs) 0) refl
    where
      go : (t : Bool) → eqb (ordered_in bs) 0 ≡ t
          → ((t || all_below (entered_once bs) (count_in bs)) ≡ true → (n : ℕ) → n < count_in bs → (t || in_order_once bs n) ≡ true)
          × (((n : ℕ) → n < count_in bs → (t || in_order_once bs n) ≡ true) → (t || all_below (entered_once bs) (count_in bs)) ≡ true)
      go true e = (λ r n h. refl, λ each. refl)
      go false e =
          let one : eqb (ordered_in bs) 1 ≡ true = eq-eqb (ordered_in bs) 1 (omega (arith, eqb-false (ordered_in bs) 0 e)) in
          rw one (all-below (entered_once bs) (count_in bs))

  abbrev tests : Bool
  tests = leb (count_in bs) 1024 && (state_valid bs && (records_valid bs && (child_lists_valid bs && order_valid bs)))

  module _ (whole : length bs ≡ arena_bytes) where
    module _ (e : holds_graph bs ≡ true) where
      few : leb (count_in bs) 1024 ≡ true
      unfolding holds_graph
      few = search (and_first, and_second)

      marks : state_valid bs ≡ true
      unfolding holds_graph
      marks = search (and_first, and_second)

      node : (n : ℕ) → n < count_in bs → node_valid bs n ≡ true
      unfolding holds_graph
      node n h = (all-below (node_valid bs) (count_in bs)).0 (search (and_first, and_second)) n h

      records : RecordsHeld bs
      unfolding holds_graph
      records = record {
        fits = λ n h. let right = node n h in search (and_first, and_second);
        prims = λ n h. let right = node n h in search (and_first, and_second);
        shallow = λ n h. let right = node n h in search (and_first, and_second);
        accepted = search (and_first, and_second);
        local-root = search (and_first, and_second);
      }

      lists : child_lists_valid bs ≡ true
      unfolding child_lists_valid
      lists = (all-below (listed_valid bs) (count_in bs)).1 (λ n h. let right = node n h in
          (and-eq-true_iff (chain_valid bs n) (in_chain_once bs n)).1 (search (and_first, and_second), search (and_first, and_second)))

      order : order_valid bs ≡ true
      order = (order-each (leb-true (ordered_in bs) 1 (and_first _ _ marks))).1 (λ n h. let right = node n h in search (and_first, and_second))

      tested : tests ≡ true
      tested = rw (few, marks, (records-held bs whole (leb-true (count_in bs) 1024 few)).1 records, lists, order)

    module _ (e : tests ≡ true) where
      marks-tested : state_valid bs ≡ true
      marks-tested = search (and_first, and_second)

      records-tested : RecordsHeld bs
      records-tested = (records-held bs whole (leb-true (count_in bs) 1024 (search (and_first, and_second)))).0 (search (and_first, and_second))

      listed : (n : ℕ) → n < count_in bs → listed_valid bs n ≡ true
      unfolding child_lists_valid
      listed n h = (all-below (listed_valid bs) (count_in bs)).0 (search (and_first, and_second)) n h

      ordered : (n : ℕ) → n < count_in bs → (eqb (ordered_in bs) 0 || in_order_once bs n) ≡ true
      ordered = (order-each (leb-true (ordered_in bs) 1 (and_first _ _ marks-tested))).0 (search (and_first, and_second))

      node-tested : (n : ℕ) → n < count_in bs → node_valid bs n ≡ true
      node-tested n h =
          let list = (and-eq-true_iff (chain_valid bs n) (in_chain_once bs n)).0 (listed n h) in
          rw (records-tested.fits n h, records-tested.prims n h, list.0, list.1, records-tested.shallow n h) (ordered n h)

      held : holds_graph bs ≡ true
      unfolding holds_graph
      held =
          rw (
            and_first (leb (count_in bs) 1024) _ e,
            marks-tested,
            (all-below (node_valid bs) (count_in bs)).1 node-tested,
            records-tested.accepted,
          ) records-tested.local-root

    pub holds-tests : holds_graph bs ≡ tests
    holds-tests = same_truth (holds_graph bs) tests tested held

    -- ---- Test by test: refused at one, question 2 fails; passed so far, it is what the rest say

    pub many-nodes : 1024 < count_in bs → holds_graph bs ≡ false
    many-nodes l = holds-tests ∙ rw (lt-leb (count_in bs) 1024 l)

    module _ (few : count_in bs ≤ 1024) where
      pub marks-fail : state_valid bs ≡ false → holds_graph bs ≡ false
      marks-fail e = holds-tests ∙ rw (le-leb (count_in bs) 1024 few, e)

      module _ (marks : state_valid bs ≡ true) where
        pub records-fail : records_valid bs ≡ false → holds_graph bs ≡ false
        records-fail e = holds-tests ∙ rw (le-leb (count_in bs) 1024 few, marks, e)

        module _ (records : records_valid bs ≡ true) where
          pub lists-fail : child_lists_valid bs ≡ false → holds_graph bs ≡ false
          lists-fail e = holds-tests ∙ rw (le-leb (count_in bs) 1024 few, marks, records, e)

          pub order-left : child_lists_valid bs ≡ true → holds_graph bs ≡ order_valid bs
          order-left e = holds-tests ∙ rw (le-leb (count_in bs) 1024 few, marks, records, e)
