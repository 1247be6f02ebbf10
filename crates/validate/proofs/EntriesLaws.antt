-- The order's entries: each is a node that no entry before it is exactly if each node stands among
-- them once, by counting. The laws of the loop over them (`EntriesTo`). Assumes nothing.
use mathlib.Core.Path.{◌≡◌, refl, sym, ap, subst, ◌∙◌}
use mathlib.Core.Logic.{◌⊎◌, inl, inr}
use mathlib.Core.Bool.{Bool, true, false}
use mathlib.Core.List.{List, [], ◌∷◌}
use Prim.Native.Nat.{ℕ, zero, suc, ◌+◌, ◌≤◌, ◌<◌}
use native.Mathlib.Nat.{eq-or-lt_of_le}
use native.Mathlib.Numerals.{add-one}
use native.Mathlib.Omega.{arith}
use lib.Dec.{eqb}
use lib.ListN.{length, get_or, set, replicate, length-set, length-replicate}
use lib.Seq.{get_or-set_same, get_or-set_other}
use borrow.Author.Tests.{eqb-true, eqb-false, eq-eqb, ne_eqb}
use Rattle.model.specs.Lists.{All, bit, count, all_below}
use Rattle.model.specs.Arena.{count_in, ordered_in, order_entry_in}
use Rattle.laws.proofs.ListLaws.{bit-eq, count-append, all-at, all_append, all-below, all-below-fails}
use Rattle.laws.proofs.LengthLaws.{length-at-most-once, once-nothing-else}
use Rattle.arena.proofs.TabulateLaws.{tabulate-length}
use Rattle.validate.specs.Validate.{entries_in, entered_once, entries_valid, order_valid}
use Rattle.validate.proofs.GrownLaws.{tabulate-more}

-- the first k entries are nodes, none twice, and `seen` has a 1 at each
pub record EntriesTo (bs seen : List ℕ) (k : ℕ) : Type 0 where
  pub wide : length seen ≡ 1024
  pub marked : (a : ℕ) → get_or seen a 0 ≡ count a (entries_in bs k)
  pub once : (a : ℕ) → count a (entries_in bs k) ≤ 1
  pub nodes : All (λ a. a < count_in bs) (entries_in bs k)

zeros : (n a : ℕ) → get_or {A = ℕ} (replicate n 0) a 0 ≡ 0
zeros zero a = refl
zeros (suc n) zero = refl
zeros (suc n) (suc a) = zeros n a

pub entries_none : (bs : List ℕ) → EntriesTo bs (replicate 1024 0) 0
entries_none bs = record { wide = length-replicate {A = ℕ} 1024 0; marked = zeros 1024; once = λ a. omega arith; nodes = tt }

module _ (bs : List ℕ) where
  count-more : (a k : ℕ) → count a (entries_in bs (suc k)) ≡ count a (entries_in bs k) + bit (eqb a (order_entry_in bs k))
  count-more a k =
      ap (count a) (tabulate-more (order_entry_in bs) k) ∙ omega (arith, count-append a (entries_in bs k) (order_entry_in bs k ∷ []))

  -- what stands at a place stands there once more than before it
  count-grows : (a k m : ℕ) → k < m → count a (entries_in bs k) + bit (eqb a (order_entry_in bs k)) ≤ count a (entries_in bs m)
  count-grows a k zero h = absurd (omega arith)
  count-grows a k (suc m) h = go (eq-or-lt_of_le {n = k} {m = m} (omega arith)) (count-grows a k m)
    where
      go : (k ≡ m) ⊎ (k < m) → (k < m → count a (entries_in bs k) + bit (eqb a (order_entry_in bs k)) ≤ count a (entries_in bs m))
          → count a (entries_in bs k) + bit (eqb a (order_entry_in bs k)) ≤ count a (entries_in bs (suc m))
      go (inl q) earlier = rw q (omega (arith, count-more a m))
      go (inr l) earlier = omega (arith, earlier l, count-more a m)

  entered-once : (a : ℕ) → count a (entries_in bs (count_in bs)) ≡ 1 → entered_once bs a ≡ true
  entered-once a e = eq-eqb (count a (entries_in bs (count_in bs))) 1 e

  -- ---- The two ways to fail

  pub entry-no-node : (k : ℕ) → k < count_in bs → count_in bs ≤ order_entry_in bs k → entries_valid bs ≡ false
  unfolding entries_valid
  entry-no-node k l h = go (all_below (entered_once bs) (count_in bs)) refl
    where
      go : (t : Bool) → all_below (entered_once bs) (count_in bs) ≡ t → t ≡ false
      go false e = refl
      go true e =
          let once : (a : ℕ) → a < count_in bs → count a (entries_in bs (count_in bs)) ≡ 1 =
          λ a m. eqb-true (count a (entries_in bs (count_in bs))) 1 ((all-below (entered_once bs) (count_in bs)).0 e a m) in
          let nodes = once-nothing-else (count_in bs) (entries_in bs (count_in bs)) (tabulate-length (order_entry_in bs) 0 (count_in bs)) once in
          let entered : 0 < count (order_entry_in bs k) (entries_in bs (count_in bs)) =
          omega (arith, count-grows (order_entry_in bs k) k (count_in bs) l, bit-eq (order_entry_in bs k) (order_entry_in bs k) refl) in
          let node : order_entry_in bs k < count_in bs = all-at (λ a. a < count_in bs) (entries_in bs (count_in bs)) (order_entry_in bs k) nodes entered in
          absurd (omega arith)

  module _ (seen : List ℕ) (k : ℕ) (to : EntriesTo bs seen k) where
    pub entry-twice : k < count_in bs → order_entry_in bs k < count_in bs → (get_or seen (order_entry_in bs k) 0 ≡ 0 → ⊥) → entries_valid bs ≡ false
    unfolding entries_valid
    entry-twice l h met =
        (all-below-fails (entered_once bs) (count_in bs)).1 (
          order_entry_in bs k,
          h,
          ne_eqb (count (order_entry_in bs k) (entries_in bs (count_in bs))) 1 (λ e. met (omega (
            arith,
            to.marked (order_entry_in bs k),
            count-grows (order_entry_in bs k) k (count_in bs) l,
            bit-eq (order_entry_in bs k) (order_entry_in bs k) refl,
          ))),
        )

    -- ---- A new entry

    pub entries-more : count_in bs ≤ 1024 → k < count_in bs → order_entry_in bs k < count_in bs → get_or seen (order_entry_in bs k) 0 ≡ 0
        → EntriesTo bs (set seen (order_entry_in bs k) 1) (k + 1)
    entries-more few l h new =
        rw (add-one k) (record {
          wide = length-set seen (order_entry_in bs k) 1 ∙ to.wide;
          marked = λ a. marks a (eqb a (order_entry_in bs k)) refl;
          once = λ a. first a (eqb a (order_entry_in bs k)) refl;
          nodes = subst (All (λ a. a < count_in bs)) (sym (tabulate-more (order_entry_in bs) k))
              (all_append (λ a. a < count_in bs) (entries_in bs k) (order_entry_in bs k ∷ []) to.nodes (h, tt));
        })
      where
        marks : (a : ℕ) (t : Bool) → eqb a (order_entry_in bs k) ≡ t → get_or (set seen (order_entry_in bs k) 1) a 0 ≡ count a (entries_in bs (suc k))
        marks a true e =
            let own : get_or (set seen (order_entry_in bs k) 1) (order_entry_in bs k) 0 ≡ count (order_entry_in bs k) (entries_in bs (suc k)) =
            get_or-set_same seen (order_entry_in bs k) 1 0 (omega (arith, to.wide))
            ∙ omega (arith, count-more (order_entry_in bs k) k, bit-eq (order_entry_in bs k) (order_entry_in bs k) refl, to.marked (order_entry_in bs k)) in
            subst (λ (x : ℕ). get_or (set seen (order_entry_in bs k) 1) x 0 ≡ count x (entries_in bs (suc k))) (sym (eqb-true a (order_entry_in bs k) e)) own
        marks a false e =
            get_or-set_other seen (order_entry_in bs k) a 1 0 (eqb-false a (order_entry_in bs k) e)
            ∙ omega (arith, count-more a k, ap bit e, to.marked a)

        first : (a : ℕ) (t : Bool) → eqb a (order_entry_in bs k) ≡ t → count a (entries_in bs (suc k)) ≤ 1
        first a true e =
            let here = bit-eq (order_entry_in bs k) (order_entry_in bs k) refl in
            let own : count (order_entry_in bs k) (entries_in bs (suc k)) ≤ 1 =
            omega (arith, count-more (order_entry_in bs k) k, here, to.marked (order_entry_in bs k)) in
            subst (λ (x : ℕ). count x (entries_in bs (suc k)) ≤ 1) (sym (eqb-true a (order_entry_in bs k) e)) own
        first a false e = omega (arith, count-more a k, ap bit e, to.once a)

    -- ---- All entries: were a node not among them, they and it would be more nodes than there are

    pub entries-all : k ≡ count_in bs → entries_valid bs ≡ true
    unfolding entries_valid
    entries-all same = (all-below (entered_once bs) (count_in bs)).1 (λ a h. entered-once a (go a h (eqb (count a (entries_in bs (count_in bs))) 0) refl))
      where
        go : (a : ℕ) → a < count_in bs → (t : Bool) → eqb (count a (entries_in bs (count_in bs))) 0 ≡ t → count a (entries_in bs (count_in bs)) ≡ 1
        go a h false e = omega (arith, eqb-false (count a (entries_in bs (count_in bs))) 0 e, rw same at (to.once a))
        go a h true e =
            let entries = entries_in bs (count_in bs) in
            let missing = eqb-true (count a entries) 0 e in
            let more : length (a ∷ entries) ≤ count_in bs =
            length-at-most-once (count_in bs) (a ∷ entries) (h, rw same at to.nodes) (λ b m. at_most b (eqb b a) refl missing) in
            absurd (omega (arith, tabulate-length (order_entry_in bs) 0 (count_in bs)))
          where
            at_most : (b : ℕ) (t : Bool) → eqb b a ≡ t → count a (entries_in bs (count_in bs)) ≡ 0 → count b (a ∷ entries_in bs (count_in bs)) ≤ 1
            at_most b true q missing =
                let own : count a (a ∷ entries_in bs (count_in bs)) ≤ 1 = omega (arith, bit-eq a a refl) in
                subst (λ (x : ℕ). count x (a ∷ entries_in bs (count_in bs)) ≤ 1) (sym (eqb-true b a q)) own
            at_most b false q missing = omega (arith, ap bit q, rw same at (to.once b))

-- ---- Only an order that is marked has entries

module _ (bs : List ℕ) where
  pub order-unmarked : ordered_in bs ≡ 0 → order_valid bs ≡ true
  unfolding order_valid
  order-unmarked e = rw (eq-eqb (ordered_in bs) 0 e)

  pub order-marked : (ordered_in bs ≡ 0 → ⊥) → order_valid bs ≡ entries_valid bs
  unfolding order_valid
  order-marked h = rw (ne_eqb (ordered_in bs) 0 h)
