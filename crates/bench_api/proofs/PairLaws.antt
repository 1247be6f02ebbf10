-- One pair more that is asked; what is known of a pair and of a call that have passed; and one pair
-- more in the sum. Assumes nothing.
use mathlib.Core.Path.{◌≡◌, refl, sym, ap, ap₂, ◌∙◌}
use mathlib.Core.Logic.{◌⊎◌, inl, inr}
use mathlib.Core.Bool.{Bool, true, false, not, ◌||◌, ◌&&◌, and-eq-true_iff, false≢true}
use mathlib.Core.List.{List}
use Prim.Native.Nat.{ℕ, zero, suc, ◌+◌, ◌/◌, ◌<◌, ◌≤◌}
use lib.Dec.{eqb, ltb, leb}
use lib.ListN.{length}
use native.Mathlib.Nat.{eq-or-lt_of_le}
use native.Mathlib.Numerals.{add-one}
use native.Mathlib.Omega.{arith}
use borrow.Author.Tests.{ltb-true, leb-true, eqb-true}
use Rattle.model.specs.Answers.{ordering_number}
use Rattle.model.specs.Arena.{arena_bytes, count_in, local_root_in}
use Rattle.model.specs.ArenaCalls.{is_arena, ValidArena}
use Rattle.model.specs.Refusals.{refusal}
use Rattle.model.specs.Strength.{compare_node_strength, compare_sibling_node_strength}
use Rattle.std.specs.declared.cmp.Ordering.{Ordering}
use Rattle.laws.proofs.AcceptedQuestions.{Accepted, none-refused-accepted}
use Rattle.view.specs.View.{view_in, ValidNodeAndRoot}
use Rattle.strength.specs.Verdicts.{Pair}
use Rattle.bench_api.specs.Pairs.{first_of, second_of, are_siblings, pair_questions, pair_refused, or_else, pairs_refused, most_pair_bytes, call_questions, call_refused, comparison, pair_sum}

-- ---- A refusal, or the next

or-else-next : (x y : ℕ) → x ≡ 0 → y ≡ or_else x y
or-else-next zero y e = refl
or-else-next (suc x) y e = absurd (omega arith)

or-else-keeps : (x y : ℕ) → (x ≡ 0 → ⊥) → x ≡ or_else x y
or-else-keeps zero y h = absurd (h refl)
or-else-keeps (suc x) y h = refl

or_else_none : (x y : ℕ) → or_else x y ≡ 0 → (x ≡ 0) × (y ≡ 0)
or_else_none zero y e = (refl, e)
or_else_none (suc x) y e = absurd (omega arith)

-- ---- One pair

module _ (siblings : Bool) (bs : List ℕ) (a b : ℕ) where
  accepted : pair_refused siblings bs a b ≡ 0 → Accepted (pair_questions siblings bs a b)
  unfolding pair_refused
  accepted e = none-refused-accepted (pair_questions siblings bs a b) refl e

  module _ (opened : ValidArena bs) {root : ℕ} (root-read : root ≡ local_root_in bs) (passed : pair_refused siblings bs a b ≡ 0) where
    -- a pair that has passed: two nodes
    pub nodes-passed : ValidNodeAndRoot bs root a × ValidNodeAndRoot bs root b
    nodes-passed = (
      record { readable = record { opened = opened; below = ltb-true a (count_in bs) both.0 }; root-read = root-read },
      record { readable = record { opened = opened; below = ltb-true b (count_in bs) both.1 }; root-read = root-read },
    )
      where
        both : (ltb a (count_in bs) ≡ true) × (ltb b (count_in bs) ≡ true)
        both = (and-eq-true_iff (ltb a (count_in bs)) (ltb b (count_in bs))).0 (accepted passed 4)

    -- and siblings, where they were asked for
    pub siblings-passed : siblings ≡ true → Pair bs root a b
    unfolding are_siblings
    siblings-passed asked =
        record {
          left = nodes-passed.0;
          right = nodes-passed.1;
          left-above = ltb-true 0 a one.0;
          right-above = ltb-true 0 b two.0;
          parents = eqb-true ((view_in bs).parent a) ((view_in bs).parent b) two.1;
        }
      where
        go : (t : Bool) → t ≡ true → (not t || are_siblings bs a b) ≡ true → are_siblings bs a b ≡ true
        go true e h = h
        go false e h = absurd (false≢true e)

        one : (ltb 0 a ≡ true) × ((ltb 0 b && eqb ((view_in bs).parent a) ((view_in bs).parent b)) ≡ true)
        one = (and-eq-true_iff (ltb 0 a) (ltb 0 b && eqb ((view_in bs).parent a) ((view_in bs).parent b))).0 (go siblings asked (accepted passed 8))

        two : (ltb 0 b ≡ true) × (eqb ((view_in bs).parent a) ((view_in bs).parent b) ≡ true)
        two = (and-eq-true_iff (ltb 0 b) (eqb ((view_in bs).parent a) ((view_in bs).parent b))).0 one.1

  pub comparing-siblings : siblings ≡ true → compare_sibling_node_strength (view_in bs) a b ≡ comparison siblings bs a b
  unfolding comparison
  comparing-siblings e = rw e

  pub comparing-nodes : siblings ≡ false → compare_node_strength (view_in bs) a b ≡ comparison siblings bs a b
  unfolding comparison
  comparing-nodes e = rw e

-- ---- The first pairs

module _ (refused : ℕ → ℕ → ℕ) (ps : List ℕ) where
  module _ (i : ℕ) {x y r : ℕ} (none : pairs_refused refused ps i ≡ 0) (first : x ≡ first_of ps i) (second : y ≡ second_of ps i) (answer : r ≡ refused x y) where
    -- where none of i pairs is refused, the next pair's answer is that of one more
    pub one-more-asked : r ≡ pairs_refused refused ps (i + 1)
    one-more-asked = answer ∙ ap₂ refused first second ∙ or-else-next (pairs_refused refused ps i) _ none ∙ ap (pairs_refused refused ps) (sym (add-one i))

  -- and is that of all, where it is a refusal
  pub refusal-stays : (n i : ℕ) {r : ℕ} → r ≡ pairs_refused refused ps (i + 1) → (r ≡ 0 → ⊥) → i < n → r ≡ pairs_refused refused ps n
  refusal-stays zero i e h below = absurd (omega arith)
  refusal-stays (suc n) i {r} e h below = go (refusal-stays n i e h) (eq-or-lt_of_le {n = i} {m = n} (omega arith))
    where
      go : (i < n → r ≡ pairs_refused refused ps n) → (i ≡ n) ⊎ (i < n) → r ≡ pairs_refused refused ps (suc n)
      go rest (inl q) = e ∙ ap (pairs_refused refused ps) (add-one i ∙ ap suc q)
      go rest (inr l) = rest l ∙ or-else-keeps (pairs_refused refused ps n) _ (λ z. h (rest l ∙ z))

  -- where none of n pairs is refused, pair i is not
  pub each-passed : (n i : ℕ) → pairs_refused refused ps n ≡ 0 → i < n → refused (first_of ps i) (second_of ps i) ≡ 0
  each-passed zero i e below = absurd (omega arith)
  each-passed (suc n) i e below = go (each-passed n i both.0) (eq-or-lt_of_le {n = i} {m = n} (omega arith))
    where
      both : (pairs_refused refused ps n ≡ 0) × (refused (first_of ps n) (second_of ps n) ≡ 0)
      both = or_else_none (pairs_refused refused ps n) (refused (first_of ps n) (second_of ps n)) e

      go : (i < n → refused (first_of ps i) (second_of ps i) ≡ 0) → (i ≡ n) ⊎ (i < n) → refused (first_of ps i) (second_of ps i) ≡ 0
      go rest (inl q) = ap (λ (k : ℕ). refused (first_of ps k) (second_of ps k)) q ∙ both.1
      go rest (inr l) = rest l

-- one pair more
pub one-more-added : (compare : ℕ → ℕ → Ordering) (ps : List ℕ) (i : ℕ) {sum r x y : ℕ} {o : Ordering} → sum ≡ pair_sum compare ps i → x ≡ first_of ps i
    → y ≡ second_of ps i → o ≡ compare x y → r ≡ ordering_number o → sum + r ≡ pair_sum compare ps (i + 1)
one-more-added compare ps i before first second compared number =
    ap₂ ◌+◌ before (number ∙ ap ordering_number (compared ∙ ap₂ compare first second)) ∙ ap (pair_sum compare ps) (sym (add-one i))

-- ---- A call

-- where nothing refuses it
pub record Passed (siblings : Bool) (bs ps : List ℕ) : Type 0 where
  pub opened : ValidArena bs
  pub few : length ps ≤ most_pair_bytes
  pub pairs : pairs_refused (pair_refused siblings bs) ps (length ps / 8) ≡ 0

module _ (siblings : Bool) (bs ps : List ℕ) where
  pub passed : call_refused siblings bs ps ≡ 0 → Passed siblings bs ps
  unfolding call_refused
  passed e =
      record {
        opened = record { whole = eqb-true (length bs) arena_bytes sizes.0; holds = own 2 };
        few = leb-true (length ps) most_pair_bytes sizes.1;
        pairs = both.1;
      }
    where
      both : (refusal (call_questions bs ps) ≡ 0) × (pairs_refused (pair_refused siblings bs) ps (length ps / 8) ≡ 0)
      both = or_else_none (refusal (call_questions bs ps)) (pairs_refused (pair_refused siblings bs) ps (length ps / 8)) e

      own : Accepted (call_questions bs ps)
      own = none-refused-accepted (call_questions bs ps) refl both.0

      sizes : (is_arena bs ≡ true) × (leb (length ps) most_pair_bytes ≡ true)
      sizes = (and-eq-true_iff (is_arena bs) (leb (length ps) most_pair_bytes)).0 (own 1)
