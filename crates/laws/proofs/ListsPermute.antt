-- Lists of a tree's children, found right by counting: if each list has only children of its node,
-- none twice, and together they have one entry less than there are nodes, then each has its node's
-- children (`lists-permute`). For an order that is not trusted but checked. Assumes nothing.
use mathlib.Core.Path.{◌≡◌, refl, sym, ap, ◌∙◌}
use mathlib.Core.Logic.{◌⊎◌, inl, inr}
use mathlib.Core.List.{List, [], ◌++◌, ◌∷◌}
use Prim.Native.Nat.{ℕ, zero, suc, ◌+◌, ◌≤◌, ◌<◌}
use native.Mathlib.Nat.{eq-or-lt_of_le}
use native.Mathlib.Omega.{arith}
use lib.ListN.{length, length-append}
use Rattle.model.specs.Lists.{All, count, SameCounts}
use Rattle.laws.proofs.ListLaws.{bit-eq, bit-ne, count-append, count_none, all-at, all-imp, all_append}
use Rattle.laws.proofs.LengthLaws.{once-of-length}
use Rattle.laws.proofs.Trees.{Child, Tree}

-- how many entries the lists of the first k nodes have
abbrev pub total : (ℕ → List ℕ) → ℕ → ℕ
total lists zero = 0
total lists (suc k) = total lists k + length (lists k)

-- the lists of the first k nodes, one after the other
abbrev joined : (ℕ → List ℕ) → ℕ → List ℕ
joined lists zero = []
joined lists (suc k) = joined lists k ++ lists k

joined_length : (lists : ℕ → List ℕ) (k : ℕ) → length (joined lists k) ≡ total lists k
joined_length lists zero = refl
joined_length lists (suc k) = omega (arith, length-append (joined lists k) (lists k), joined_length lists k)

module _ (n : ℕ) (parent : ℕ → ℕ) (lists : ℕ → List ℕ) (own : (v : ℕ) → v < n → All (Child n parent v) (lists v)) where
  -- ---- How often a node stands in the lists of the first k nodes: as often as in its parent's

  elsewhere : (v a : ℕ) → v < n → (parent a ≡ v → ⊥) → count a (lists v) ≡ 0
  elsewhere v a h ne =
      count_none a (lists v) (all-imp (Child n parent v) (λ c. a ≡ c → ⊥) (lists v) (λ c child e. ne (ap parent e ∙ child.2)) (own v h))

  count-before : (k a : ℕ) → k ≤ n → k ≤ parent a → count a (joined lists k) ≡ 0
  count-before zero a h l = refl
  count-before (suc k) a h l =
      omega (
        arith,
        count-append a (joined lists k) (lists k),
        count-before k a (omega arith) (omega arith),
        elsewhere k a (omega arith) (λ e. omega arith),
      )

  count-joined : (k a : ℕ) → k ≤ n → parent a < k → count a (joined lists k) ≡ count a (lists (parent a))
  count-joined zero a h l = absurd (omega arith)
  count-joined (suc k) a h l =
      count-append a (joined lists k) (lists k) ∙ go (count-joined k a (omega arith)) (eq-or-lt_of_le {n = parent a} {m = k} (omega arith))
    where
      go : (parent a < k → count a (joined lists k) ≡ count a (lists (parent a))) → (parent a ≡ k) ⊎ (parent a < k)
          → count a (joined lists k) + count a (lists k) ≡ count a (lists (parent a))
      go earlier (inl e) = omega (arith, count-before k a (omega arith) (omega arith), ap (λ v. count a (lists v)) e)
      go earlier (inr m) = omega (arith, earlier m, elsewhere k a (omega arith) (λ e. omega arith))

  all-joined : (P : ℕ → Type 0) → ((c : ℕ) → 0 < c → c < n → P c) → (k : ℕ) → k ≤ n → All P (joined lists k)
  all-joined P f zero h = tt
  all-joined P f (suc k) h =
      all_append P (joined lists k) (lists k) (all-joined P f k (omega arith))
      (all-imp (Child n parent k) P (lists k) (λ c child. f c child.0 child.1) (own k (omega arith)))

  -- ---- All lists, behind node 0, which stands in none: each node once

  module _ (lower : (c : ℕ) → 0 < c → c < n → parent c < c) (once : (v a : ℕ) → v < n → count a (lists v) ≤ 1) (whole : suc (total lists n) ≡ n) where
    count-node : (a : ℕ) → 0 < a → a < n → count a (0 ∷ joined lists n) ≡ count a (lists (parent a))
    count-node a p q =
        let down = lower a p q in
        omega (arith, bit-ne a 0 (λ e. omega arith), count-joined n a (omega arith) (omega arith))

    none-twice : (a : ℕ) → a < n → count a (0 ∷ joined lists n) ≤ 1
    none-twice zero q =
        let nowhere = all-joined (λ c. 0 ≡ c → ⊥) (λ c p q e. omega arith) n (omega arith) in
        omega (arith, bit-eq 0 0 refl, count_none 0 (joined lists n) nowhere)
    none-twice (suc a) q =
        let down = lower (suc a) (omega arith) q in
        omega (arith, count-node (suc a) (omega arith) q, once (parent (suc a)) (suc a) (omega arith))

    own-once : (a : ℕ) → 0 < a → a < n → count a (lists (parent a)) ≡ 1
    own-once a p q =
        sym (count-node a p q)
        ∙ once-of-length n (0 ∷ joined lists n) (omega arith, all-joined (λ c. c < n) (λ c p q. q) n (omega arith)) none-twice
        (omega (arith, joined_length lists n)) a q

module _ (n : ℕ) (parent : ℕ → ℕ) (children : ℕ → List ℕ) (tree : Tree n parent children) (lists : ℕ → List ℕ)
    (own : (v : ℕ) → v < n → All (Child n parent v) (lists v)) (once : (v a : ℕ) → v < n → count a (lists v) ≤ 1) where
  pub lists-permute : suc (total lists n) ≡ n → (v : ℕ) → v < n → SameCounts (lists v) (children v)
  lists-permute whole v h a = go (count a (children v)) refl (count a (lists v)) refl
    where
      here : Child n parent v a → count a (lists v) ≡ count a (children v)
      here child =
          rw child.2 at
          (own-once n parent lists own tree.lower once whole a child.0 child.1 ∙ sym (tree.once a child.0 child.1))

      go : (i : ℕ) → count a (children v) ≡ i → (j : ℕ) → count a (lists v) ≡ j → count a (lists v) ≡ count a (children v)
      go zero e zero f = omega arith
      go zero e (suc j) f = here (all-at (Child n parent v) (lists v) a (own v h) (omega arith))
      go (suc i) e j f = here (tree.only v a (omega arith))
