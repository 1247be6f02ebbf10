-- A child list and its links in an arena: a list linked element by element is what `chain_in` reads,
-- and `chain_ends` passes on it (`chain-linked`, `chain-ends-linked`); and what passes is such a
-- list (`chain_held`). `after_in` gives the links, and they give it. `last_of` is the last. Assumes
-- nothing.
use mathlib.Core.Path.{◌≡◌, refl, sym, ap, ◌∙◌}
use mathlib.Core.Bool.{Bool, true, false, cond, ◌||◌, ◌&&◌, or-true, false≢true}
use mathlib.Core.List.{List, [], ◌∷◌, ◌++◌}
use Prim.Native.Nat.{ℕ, zero, suc, ◌≤◌, ◌<◌}
use native.Mathlib.Omega.{arith}
use lib.Dec.{eqb, ltb}
use lib.ListN.{length}
use borrow.Author.Tests.{lt-ltb, le-ltb, eq-eqb, ne_eqb, eqb-true, eqb-false, ltb-true}
use Rattle.model.specs.Lists.{All, count}
use Rattle.model.specs.Node.{invalid}
use Rattle.model.specs.Arena.{count_in, next_sibling_in, node_in, chain_in, first_of, last_of, after_in, chain_ends}
use Rattle.laws.proofs.ListLaws.{bit-eq, all_of, all-at, bit-ne}
use Rattle.laws.proofs.SnapshotLaws.{and_first, and_second}

-- each element's next is the element after it, `invalid` after the last
abbrev pub Linked : (ℕ → ℕ) → List ℕ → Type 0
Linked next [] = Unit {0}
Linked next (c ∷ cs) = (next c ≡ first_of cs) × Linked next cs

pub linked-after : (next : ℕ → ℕ) (cs : List ℕ) → ((a : ℕ) → count a cs ≤ 1) → All (λ c. next c ≡ after_in c cs) cs → Linked next cs
linked-after next [] once h = tt
linked-after next (c ∷ cs) once h = (
  rw (eq-eqb c c refl) at h.0,
  linked-after next cs (λ a. omega (arith, once a)) (all_of (λ a. next a ≡ after_in a cs) cs later),
)
  where
    later : (a : ℕ) → 0 < count a cs → next a ≡ after_in a cs
    later a m =
        let other : eqb c a ≡ false = ne_eqb c a (λ e. omega (arith, once a, bit-eq a c (sym e))) in
        rw other at (all-at (λ a. next a ≡ after_in a (c ∷ cs)) cs a h.1 m)

-- the one after n is the one that n's link leads to
pub after-linked : (next : ℕ → ℕ) (cs : List ℕ) (n : ℕ) → Linked next cs → 0 < count n cs → after_in n cs ≡ next n
after-linked next [] n links m = absurd (omega arith)
after-linked next (c ∷ cs) n links m = go (eqb c n) refl (after-linked next cs n links.1)
  where
    go : (t : Bool) → eqb c n ≡ t → (0 < count n cs → after_in n cs ≡ next n) → cond t (first_of cs) (after_in n cs) ≡ next n
    go true q later = sym links.0 ∙ ap next (eqb-true c n q)
    go false q later = later (omega (arith, bit-ne n c (λ s. eqb-false c n q (sym s))))

-- ---- Read and checked

pub chain_length : (bs : List ℕ) (k n : ℕ) → length (chain_in bs k n) ≤ k
chain_length bs zero n = omega arith
chain_length bs (suc k) n = go (ltb n (count_in bs)) (chain_length bs k (next_sibling_in bs n))
  where
    go : (t : Bool) → length (chain_in bs k (next_sibling_in bs n)) ≤ k → length (cond t (n ∷ chain_in bs k (next_sibling_in bs n)) []) ≤ suc k
    go true later = omega arith
    go false later = omega arith

pub chain-linked : (bs : List ℕ) (k : ℕ) (cs : List ℕ) → count_in bs ≤ invalid → length cs ≤ k → All (λ c. c < count_in bs) cs
    → Linked (next_sibling_in bs) cs → chain_in bs k (first_of cs) ≡ cs
chain-linked bs zero [] few l h links = refl
chain-linked bs zero (c ∷ cs) few l h links = absurd (omega arith)
chain-linked bs (suc k) [] few l h links = rw (le-ltb invalid (count_in bs) few)
chain-linked bs (suc k) (c ∷ cs) few l h links =
    rw (lt-ltb c (count_in bs) h.0, links.0) (ap (λ (l : List ℕ). c ∷ l) (chain-linked bs k cs few (omega arith) h.1 links.1))

pub chain-ends-linked : (bs : List ℕ) (v k : ℕ) (cs : List ℕ) → length cs ≤ k → All (λ c. (c < count_in bs) × ((node_in bs c).parent ≡ v)) cs
    → Linked (next_sibling_in bs) cs → chain_ends bs v k (first_of cs) ≡ true
chain-ends-linked bs v zero [] l h links = refl
chain-ends-linked bs v zero (c ∷ cs) l h links = absurd (omega arith)
chain-ends-linked bs v (suc k) [] l h links = refl
chain-ends-linked bs v (suc k) (c ∷ cs) l h links =
    rw (
      lt-ltb c (count_in bs) h.0.0,
      eq-eqb (node_in bs c).parent v h.0.1,
      links.0,
      chain-ends-linked bs v k cs (omega arith) h.1 links.1,
    ) (or-true (eqb c invalid))

-- ---- What was checked

pub or-second : (a b : Bool) → (a || b) ≡ true → a ≡ false → b ≡ true
or-second true b e q = absurd (false≢true (sym q))
or-second false b e q = e

-- cs is the chain from n on: children of v, each linked to the next
pub record Chain (bs : List ℕ) (v n : ℕ) (cs : List ℕ) : Type 0 where
  pub first : first_of cs ≡ n
  pub children : All (λ c. (c < count_in bs) × ((node_in bs c).parent ≡ v)) cs
  pub linked : Linked (next_sibling_in bs) cs

pub chain_held : (bs : List ℕ) (v k n : ℕ) → count_in bs ≤ 1024 → chain_ends bs v k n ≡ true → Chain bs v n (chain_in bs k n)
chain_held bs v zero n few e = record { first = sym (eqb-true n invalid e); children = tt; linked = tt }
chain_held bs v (suc k) n few e = go (eqb n invalid) refl (chain_held bs v k (next_sibling_in bs n) few)
  where
    go : (t : Bool) → eqb n invalid ≡ t
        → (chain_ends bs v k (next_sibling_in bs n) ≡ true → Chain bs v (next_sibling_in bs n) (chain_in bs k (next_sibling_in bs n)))
        → Chain bs v n (chain_in bs (suc k) n)
    go true q later =
        let none = eqb-true n invalid q in
        rw (le-ltb n (count_in bs) (omega arith)) (record { first = sym none; children = tt; linked = tt })
    go false q later =
        let inner = or-second (eqb n invalid) (ltb n (count_in bs) && (eqb (node_in bs n).parent v && chain_ends bs v k (next_sibling_in bs n))) e q in
        let below : ltb n (count_in bs) ≡ true = search and_first in
        let rest = later (search (and_first, and_second)) in
        rw below (record {
          first = refl;
          children = ((ltb-true n (count_in bs) below, eqb-true (node_in bs n).parent v (search (and_first, and_second))), rest.children);
          linked = (sym rest.first, rest.linked);
        })

pub last-of-more : (cs : List ℕ) (c : ℕ) → last_of (cs ++ (c ∷ [])) ≡ c
last-of-more [] c = refl
last-of-more (x ∷ []) c = refl
last-of-more (x ∷ y ∷ cs) c = last-of-more (y ∷ cs) c
