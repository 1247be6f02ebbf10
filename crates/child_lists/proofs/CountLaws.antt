-- Counting decides. Each child list that is right has only children of its node and has nothing
-- twice, so all of them together have no node twice; they have each node but 0 once exactly where
-- they are together as long as there are such nodes. `Walking` says what `are_valid` has found
-- after the lists of the nodes below p: `walking_start`, `walking_on`, `walking-wrong` and
-- `walking-ends` are the steps of its loop. Assumes nothing.
use mathlib.Core.Path.{◌≡◌, refl, sym, ap, ◌∙◌}
use mathlib.Core.Logic.{◌⊎◌, inl, inr}
use mathlib.Core.Bool.{Bool, true, false, and-eq-true_iff, and-false}
use mathlib.Core.List.{List, [], ◌∷◌, ◌++◌}
use Prim.Native.Nat.{ℕ, zero, suc, ◌+◌, ◌-◌, ◌≤◌, ◌<◌}
use native.Mathlib.Nat.{eq-or-lt_of_le}
use native.Mathlib.Omega.{arith}
use lib.Dec.{eqb}
use lib.ListN.{length, length-append}
use borrow.Author.Tests.{eq-eqb, ne_eqb, eqb-true, eqb-false}
use Rattle.model.specs.Lists.{All, count}
use Rattle.model.specs.Node.{invalid}
use Rattle.model.specs.Arena.{count_in, next_sibling_in, node_in, children_in, chain_valid, in_chain_once}
use Rattle.laws.proofs.LengthLaws.{length-once, once-of-length}
use Rattle.laws.proofs.ListLaws.{bit-ne, count-append, count_none, all-imp, all_append, all-below, all-below-fails}
use Rattle.laws.proofs.SnapshotLaws.{and_first, and_second}
use Rattle.std.specs.Prelude.{Some, None}
use Rattle.child_lists.specs.ChildLists.{Parented, listed_valid, child_lists_valid, left_after}
use Rattle.child_lists.proofs.ChildListWalk.{same-parent}
use Rattle.child_lists.proofs.OnceLaws.{linked-once}
use Rattle.child_lists.proofs.OneListLaws.{ListRead, walk-reads, right-chain, right-links, walk-suffices}

-- the child lists of the nodes below p, one after the other
abbrev pub lists_below : List ℕ → ℕ → List ℕ
lists_below bs zero = []
lists_below bs (suc p) = lists_below bs p ++ children_in bs p

-- the child lists of the nodes below p end, each in the last child
abbrev pub RightBelow : List ℕ → ℕ → Type 0
RightBelow bs p = (v : ℕ) → v < p → chain_valid bs v ≡ true

-- the lists of the nodes below p are right, and `left` nodes more would make all but node 0
pub record Walking (bs : List ℕ) (p left : ℕ) : Type 0 where
  pub right : RightBelow bs p
  pub total : length (lists_below bs p) + left ≡ count_in bs - 1

module _ (bs : List ℕ) (h : Parented bs) where
  in-parents : (n : ℕ) → in_chain_once bs (suc n) ≡ eqb (count (suc n) (children_in bs (node_in bs (suc n)).parent)) 1
  in-parents n = rw (ne_eqb (suc n) 0 (λ e. omega arith))

  -- ---- How often a node stands in the lists of the nodes below p: as often as in its parent's

  elsewhere : (v a : ℕ) → chain_valid bs v ≡ true → ((node_in bs a).parent ≡ v → ⊥) → count a (children_in bs v) ≡ 0
  elsewhere v a e ne =
      count_none a (children_in bs v)
      (all-imp (λ c. (c < count_in bs) × ((node_in bs c).parent ≡ v)) (λ c. a ≡ c → ⊥) (children_in bs v)
      (λ c child q. ne (ap (λ x. (node_in bs x).parent) q ∙ child.1)) (right-chain bs h v e).children)

  count-later : (p a : ℕ) → RightBelow bs p → p ≤ (node_in bs a).parent → count a (lists_below bs p) ≡ 0
  count-later zero a right l = refl
  count-later (suc p) a right l =
      omega (
        arith,
        count-append a (lists_below bs p) (children_in bs p),
        count-later p a (λ v m. right v (omega arith)) (omega arith),
        elsewhere p a (right p (omega arith)) (λ e. omega arith),
      )

  count-listed : (p a : ℕ) → RightBelow bs p → (node_in bs a).parent < p → count a (lists_below bs p) ≡ count a (children_in bs (node_in bs a).parent)
  count-listed zero a right l = absurd (omega arith)
  count-listed (suc p) a right l =
      count-append a (lists_below bs p) (children_in bs p)
      ∙ go (count-listed p a earlier) (eq-or-lt_of_le {n = (node_in bs a).parent} {m = p} (omega arith))
    where
      earlier : RightBelow bs p
      earlier v m = right v (omega arith)

      go : ((node_in bs a).parent < p → count a (lists_below bs p) ≡ count a (children_in bs (node_in bs a).parent))
          → ((node_in bs a).parent ≡ p) ⊎ ((node_in bs a).parent < p)
          → count a (lists_below bs p) + count a (children_in bs p) ≡ count a (children_in bs (node_in bs a).parent)
      go listed (inl e) = omega (arith, count-later p a earlier (omega arith), ap (λ v. count a (children_in bs v)) e)
      go listed (inr m) = omega (arith, listed m, elsewhere p a (right p (omega arith)) (λ e. omega arith))

  all_listed : (p : ℕ) → RightBelow bs p → All (λ c. c < count_in bs) (lists_below bs p)
  all_listed zero right = tt
  all_listed (suc p) right =
      all_append (λ c. c < count_in bs) (lists_below bs p) (children_in bs p) (all_listed p (λ v m. right v (omega arith)))
      (right-links bs h p (right p (omega arith))).below

  -- ---- All lists, behind node 0, which stands in none

  module _ (some : 0 < count_in bs) (right : RightBelow bs (count_in bs)) where
    root-unlisted : count 0 (lists_below bs (count_in bs)) ≡ 0
    root-unlisted = count-later (count_in bs) 0 right (omega (arith, same-parent bs h 0 some, h.no-parent some, h.few))

    count-node : (a : ℕ) → 0 < a → a < count_in bs → count a (0 ∷ lists_below bs (count_in bs)) ≡ count a (children_in bs (node_in bs a).parent)
    count-node a s l =
        let lower = h.lower a s l in
        omega (
          arith,
          bit-ne a 0 (λ e. omega arith),
          count-listed (count_in bs) a right (omega (arith, same-parent bs h a l)),
        )

    all-nodes : All (λ c. c < count_in bs) (0 ∷ lists_below bs (count_in bs))
    all-nodes = (some, all_listed (count_in bs) right)

    none-twice : (a : ℕ) → a < count_in bs → count a (0 ∷ lists_below bs (count_in bs)) ≤ 1
    none-twice zero l = omega (arith, root-unlisted)
    none-twice (suc a) l =
        let parent = (node_in bs (suc a)).parent in
        let lower = h.lower (suc a) (omega arith) l in
        let links = right-links bs h parent (right parent (omega (arith, same-parent bs h (suc a) l))) in
        omega (
          arith,
          count-node (suc a) (omega arith) l,
          linked-once bs h.few (children_in bs parent) links (suc a),
        )

    -- lists as long together as there are nodes but 0 have each of them once
    right-of-length : length (lists_below bs (count_in bs)) ≡ count_in bs - 1 → next_sibling_in bs 0 ≡ invalid → child_lists_valid bs ≡ true
    unfolding child_lists_valid
    right-of-length l last = (all-below (listed_valid bs) (count_in bs)).1 each
      where
        each : (n : ℕ) → n < count_in bs → listed_valid bs n ≡ true
        each zero b = (and-eq-true_iff (chain_valid bs 0) (in_chain_once bs 0)).1 (right 0 b, eq-eqb (next_sibling_in bs 0) invalid last)
        each (suc n) b =
            (and-eq-true_iff (chain_valid bs (suc n)) (in_chain_once bs (suc n))).1 (
              right (suc n) b,
              in-parents n ∙ eq-eqb (count (suc n) (children_in bs (node_in bs (suc n)).parent)) 1
                  (sym (count-node (suc n) (omega arith) b)
                  ∙ once-of-length (count_in bs) (0 ∷ lists_below bs (count_in bs)) all-nodes none-twice (omega arith) (suc n) b),
            )

  -- ---- What follows where the lists are right

  lists-grow : (p q : ℕ) → p ≤ q → length (lists_below bs p) ≤ length (lists_below bs q)
  lists-grow p zero l = let e : p ≡ 0 = omega arith in rw e (omega arith)
  lists-grow p (suc q) l = go (lists-grow p q) (eq-or-lt_of_le {n = p} {m = suc q} l)
    where
      go : (p ≤ q → length (lists_below bs p) ≤ length (lists_below bs q)) → (p ≡ suc q) ⊎ (p < suc q)
          → length (lists_below bs p) ≤ length (lists_below bs (suc q))
      go earlier (inl e) = rw e (omega arith)
      go earlier (inr m) = omega (arith, earlier (omega arith), length-append (lists_below bs q) (children_in bs q))

  module _ (some : 0 < count_in bs) (e : child_lists_valid bs ≡ true) where
    listed : (n : ℕ) → n < count_in bs → listed_valid bs n ≡ true
    unfolding child_lists_valid
    listed = (all-below (listed_valid bs) (count_in bs)).0 e

    right-below : RightBelow bs (count_in bs)
    right-below v l = and_first (chain_valid bs v) (in_chain_once bs v) (listed v l)

    length-of-right : length (lists_below bs (count_in bs)) ≡ count_in bs - 1
    length-of-right = omega (arith, length-once (count_in bs) (0 ∷ lists_below bs (count_in bs)) (all-nodes some right-below) once)
      where
        once : (a : ℕ) → a < count_in bs → count a (0 ∷ lists_below bs (count_in bs)) ≡ 1
        once zero l = omega (arith, root-unlisted some right-below)
        once (suc a) l =
            count-node some right-below (suc a) (omega arith) l
            ∙ eqb-true (count (suc a) (children_in bs (node_in bs (suc a)).parent)) 1
            (sym (in-parents a) ∙ and_second (chain_valid bs (suc a)) (in_chain_once bs (suc a)) (listed (suc a) l))

  -- ---- The laws of the loop

  pub right-empty : count_in bs ≡ 0 → child_lists_valid bs ≡ true
  unfolding child_lists_valid
  right-empty e = rw e

  pub wrong-root : 0 < count_in bs → (next_sibling_in bs 0 ≡ invalid → ⊥) → child_lists_valid bs ≡ false
  unfolding child_lists_valid
  wrong-root some ne =
      (all-below-fails (listed_valid bs) (count_in bs)).1
      (0, some, rw (ne_eqb (next_sibling_in bs 0) invalid ne) (and-false (chain_valid bs 0)))

  pub walking_start : (left : ℕ) → left ≡ count_in bs - 1 → Walking bs 0 left
  walking_start left e = record { right = λ v l. absurd (omega arith); total = omega arith }

  module _ (p left : ℕ) (w : Walking bs p left) where
    pub walking_on : (rest : ℕ) → left_after bs p left ≡ Some rest → Walking bs (suc p) rest
    walking_on rest e = record {
      right = λ v l. right v (eq-or-lt_of_le {n = v} {m = p} (omega arith));
      total = omega (arith, w.total, length-append (lists_below bs p) (children_in bs p), list.size);
    }
      where
        list : ListRead bs p left rest
        list = walk-reads bs h p left rest (omega (arith, w.total)) e

        right : (v : ℕ) → (v ≡ p) ⊎ (v < p) → chain_valid bs v ≡ true
        right v (inl q) = rw q list.right
        right v (inr l) = w.right v l

    pub walking-wrong : p < count_in bs → left_after bs p left ≡ None → child_lists_valid bs ≡ false
    walking-wrong l e = go (child_lists_valid bs) refl
      where
        go : (t : Bool) → child_lists_valid bs ≡ t → t ≡ false
        go true q =
            let some : 0 < count_in bs = omega arith in
            let fits : length (children_in bs p) ≤ left = omega (
              arith,
              w.total,
              length-append (lists_below bs p) (children_in bs p),
              lists-grow (suc p) (count_in bs) l,
              length-of-right some q,
            ) in
            let read = walk-suffices bs h p (right-below some q p l) left fits in
            let z : ◌≡◌ {A = ℕ} 0 1 = cc in absurd (omega arith)
        go false q = refl

    pub walking-ends : p ≡ count_in bs → 0 < count_in bs → next_sibling_in bs 0 ≡ invalid → eqb left 0 ≡ child_lists_valid bs
    walking-ends all some last = go (eqb left 0) refl (child_lists_valid bs) refl
      where
        lists : RightBelow bs (count_in bs)
        lists v l = w.right v (omega arith)

        total : length (lists_below bs (count_in bs)) + left ≡ count_in bs - 1
        total = rw all at w.total

        go : (t : Bool) → eqb left 0 ≡ t → (u : Bool) → child_lists_valid bs ≡ u → t ≡ u
        go true e true q = refl
        go true e false q = sym (right-of-length some lists (omega (arith, total, eqb-true left 0 e)) last) ∙ q
        go false e true q = absurd (eqb-false left 0 e (omega (arith, total, length-of-right some q)))
        go false e false q = refl
