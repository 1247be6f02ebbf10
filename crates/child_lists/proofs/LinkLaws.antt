-- The links of a child list that stands in a part of an array: `last_of`'s answer, the state of
-- `link_list`'s loop, and what stands in `next` once a list is linked. Assumes nothing.
use mathlib.Core.Path.{◌≡◌, refl, sym, ap, ◌∙◌}
use mathlib.Core.Logic.{◌⊎◌, inl, inr}
use mathlib.Core.Bool.{Bool, true, false, cond}
use mathlib.Core.List.{List, [], ◌∷◌, ◌++◌}
use Prim.Native.Nat.{ℕ, suc, ◌+◌, ◌-◌, ◌≤◌, ◌<◌}
use native.Mathlib.Nat.{eq-or-lt_of_le}
use native.Mathlib.Omega.{arith}
use lib.Dec.{eqb}
use lib.ListN.{length, take, drop, get_or, set, length-set}
use lib.Seq.{slice, slice_empty, take-suc, drop-append-le, length-take-le, get_or-set_same, get_or-set_other}
use borrow.Author.Tests.{eqb-true, eqb-false}
use Rattle.model.specs.Arena.{first_of, last_of, after_in}
use Rattle.model.specs.Lists.{count}
use Rattle.laws.proofs.ListLaws.{bit-eq, bit-ne}
use Rattle.child_lists.specs.Links.{start_of, part, nexts_set, nexts_made}

pub slice-done : (at end : ℕ) (array : List ℕ) → at ≤ end → end ≤ at → slice at end array ≡ []
slice-done at end array low high = let e : at ≡ end = omega arith in rw e (slice_empty end array)

last_snoc : (xs : List ℕ) (y : ℕ) → last_of (xs ++ y ∷ []) ≡ y
last_snoc [] y = refl
last_snoc (x ∷ []) y = refl
last_snoc (x ∷ z ∷ xs) y = last_snoc (z ∷ xs) y

pub last-of-part : (start end : ℕ) (l : List ℕ) → start < end → end ≤ length l → get_or l (end - 1) 0 ≡ last_of (slice start end l)
last-of-part start end l h fits =
    let one_less : end ≡ suc (end - 1) = omega arith in
    let front : length (take (end - 1) l) ≡ end - 1 = length-take-le (end - 1) l (omega arith) in
    sym (ap (λ (k : ℕ). last_of (slice start k l)) one_less
    ∙ ap (λ (m : List ℕ). last_of (drop start m)) (take-suc l (end - 1) 0 (omega arith))
    ∙ ap last_of (drop-append-le start (take (end - 1) l) (get_or l (end - 1) 0 ∷ []) (omega arith))
    ∙ last_snoc (drop start (take (end - 1) l)) (get_or l (end - 1) 0))

-- ---- Linking one list, the last child first

pub record Linking (sorted before : List ℕ) (end at head : ℕ) (next : List ℕ) : Type 0 where
  pub high : at ≤ end
  pub first : head ≡ first_of (slice at end sorted)
  pub same : next ≡ nexts_set (slice at end sorted) before

pub nexts-length : (cs next : List ℕ) → length (nexts_set cs next) ≡ length next
nexts-length [] next = refl
nexts-length (c ∷ cs) next = length-set (nexts_set cs next) c (first_of cs) ∙ nexts-length cs next

-- ---- Linking the lists of all parents

pub record LinkingAll (sorted ends next₀ : List ℕ) (p start : ℕ) (first last next : List ℕ) : Type 0 where
  pub begun : start ≡ start_of ends p
  pub firsts : (q : ℕ) → q < p → get_or first q 0 ≡ first_of (part sorted ends q)
  pub lasts : (q : ℕ) → q < p → get_or last q 0 ≡ last_of (part sorted ends q)
  pub nexts : next ≡ nexts_made sorted ends p next₀

pub linking-all-start : (sorted ends first₀ last₀ next₀ : List ℕ) → LinkingAll sorted ends next₀ 0 0 first₀ last₀ next₀
linking-all-start sorted ends first₀ last₀ next₀ = record {
  begun = refl;
  firsts = λ q h. absurd (omega arith);
  lasts = λ q h. absurd (omega arith);
  nexts = refl;
}

-- one place more of an array that a loop fills
pub filled_more : (l : List ℕ) (p v : ℕ) (f : ℕ → ℕ) → p < length l → ((q : ℕ) → q < p → get_or l q 0 ≡ f q) → v ≡ f p → (q : ℕ) → q < p + 1
    → get_or (set l p v) q 0 ≡ f q
filled_more l p v f here filled new q h = go (eq-or-lt_of_le {n = q} {m = p} (omega arith))
  where
    go : (q ≡ p) ⊎ (q < p) → get_or (set l p v) q 0 ≡ f q
    go (inl e) = rw e (get_or-set_same l p v 0 here ∙ new)
    go (inr earlier) = get_or-set_other l p q v 0 (λ e. omega arith) ∙ filled q earlier

pub linking-all-step : (sorted ends next₀ : List ℕ) (p start : ℕ) (first last next after : List ℕ) (f l : ℕ)
    → LinkingAll sorted ends next₀ p start first last next → p < length first → p < length last
    → f ≡ first_of (slice start (get_or ends p 0) sorted) → l ≡ last_of (slice start (get_or ends p 0) sorted)
    → after ≡ nexts_set (slice start (get_or ends p 0) sorted) next
    → LinkingAll sorted ends next₀ (p + 1) (get_or ends p 0) (set first p f) (set last p l) after
linking-all-step sorted ends next₀ p start first last next after f l state in-first in-last is-first is_last linked =
    let more : suc p ≡ p + 1 = omega arith in
    let here : slice start (get_or ends p 0) sorted ≡ part sorted ends p = ap (λ (s : ℕ). slice s (get_or ends p 0) sorted) state.begun in
    record {
      begun = ap (start_of ends) more;
      firsts = filled_more first p f (λ q. first_of (part sorted ends q)) in-first state.firsts (is-first ∙ ap first_of here);
      lasts = filled_more last p l (λ q. last_of (part sorted ends q)) in-last state.lasts (is_last ∙ ap last_of here);
      nexts = linked ∙ (λ i. nexts_set (here i) (state.nexts i)) ∙ ap (λ (q : ℕ). nexts_made sorted ends q next₀) more;
    }

-- ---- What stands in `next` then

-- a node that is not in the list keeps what it had
pub nexts-outside : (cs next : List ℕ) (n : ℕ) → count n cs ≡ 0 → get_or (nexts_set cs next) n 0 ≡ get_or next n 0
nexts-outside [] next n none = refl
nexts-outside (c ∷ cs) next n none =
    get_or-set_other (nexts_set cs next) c n (first_of cs) 0 (λ e. omega (arith, bit-eq n c e)) ∙ nexts-outside cs next n (omega arith)

pub nexts-inside : (cs next : List ℕ) (n : ℕ) → n < length next → 0 < count n cs → get_or (nexts_set cs next) n 0 ≡ after_in n cs
nexts-inside [] next n h some = absurd (omega arith)
nexts-inside (c ∷ cs) next n h some = go (eqb c n) refl (nexts-inside cs next n h)
  where
    go : (t : Bool) → eqb c n ≡ t → (0 < count n cs → get_or (nexts_set cs next) n 0 ≡ after_in n cs)
        → get_or (set (nexts_set cs next) c (first_of cs)) n 0 ≡ cond t (first_of cs) (after_in n cs)
    go true e later =
        ap (λ (k : ℕ). get_or (set (nexts_set cs next) k (first_of cs)) n 0) (eqb-true c n e)
        ∙ get_or-set_same (nexts_set cs next) n (first_of cs) 0 (omega (arith, nexts-length cs next))
    go false e later =
        let other : n ≡ c → ⊥ = λ q. eqb-false c n e (sym q) in
        get_or-set_other (nexts_set cs next) c n (first_of cs) 0 other ∙ later (omega (arith, bit-ne n c other))
