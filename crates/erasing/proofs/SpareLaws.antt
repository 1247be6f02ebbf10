-- The pass over a set's bytes: it starts from the marked set (`sparing-start`), a node that stays
-- has its links stay (`sparing-kept`), one that goes changes nothing (`sparing-gone`), and what is
-- left is the erasable set (`sparing-ends`). Assumes nothing.
use mathlib.Core.Path.{◌≡◌, refl, sym, ap, ◌∙◌, fun_ext}
use mathlib.Core.Bool.{Bool, true, false, not, ◌||◌, ◌&&◌, or-true, or-false, or_assoc}
use mathlib.Core.List.{List}
use Prim.Native.Nat.{ℕ, zero, suc, ◌-◌, ◌≤◌, ◌<◌}
use native.Mathlib.Decide.{dec_lt}
use native.Mathlib.Omega.{arith}
use lib.Dec.{eqb, ltb}
use lib.ListN.{length, get_or, set, length-set, get_or-eq_default}
use lib.Seq.{get_or-set_same, get_or-set_other, ext_get_or}
use borrow.Author.Tests.{eqb-true, eqb-false, eq-eqb, ne_eqb, lt-ltb, le-ltb}
use Rattle.model.specs.Lists.{bit}
use Rattle.model.specs.Node.{Node, no_node}
use Rattle.model.specs.Graph.{Graph, size, node_at}
use Rattle.model.specs.Culling.{is_marked, keep_links, keep_down, is_erasable}
use Rattle.model.specs.Erasing.{stays, erasable}
use Rattle.laws.proofs.ErasableLaws.{unmarked-not-erasable}
use Rattle.laws.proofs.EraseSets.{erasable-length, erasable-byte}
use Rattle.erasing.specs.MarkedSet.{marks, MarkedBelow}

-- the nodes from n on are done: the rest of the pass comes from these bytes to what the whole pass
-- keeps
pub record Sparing (ns : List Node) (n : ℕ) (bytes : List ℕ) : Type 0 where
  pub long : length bytes ≡ 1024
  pub bits : (k : ℕ) → get_or bytes k 0 ≤ 1
  pub rest : keep_down ns (n - 1) (stays bytes) ≡ keep_down ns (length ns - 1) (λ x. not (is_marked ns x))

-- ---- The marked set

unmarked-beyond : (ns : List Node) (n : ℕ) → length ns ≤ n → is_marked ns n ≡ false
unfolding is_marked
unmarked-beyond ns n h = rw (get_or-eq_default ns no_node {n = n} h)

bit-small : (b : Bool) → bit b ≤ 1
bit-small true = omega arith
bit-small false = omega arith

bit-zero : (b : Bool) → eqb (bit b) 0 ≡ not b
bit-zero true = refl
bit-zero false = refl

marks-marked : (g : Graph) (n : ℕ) → marks g n ≡ is_marked g.nodes n
marks-marked g n = go (dec_lt n (size g))
  where
    go : Dec (n < size g) → marks g n ≡ is_marked g.nodes n
    go (yes below) = rw (lt-ltb n (size g) below)
    go (no beyond) = rw (le-ltb n (size g) (omega arith), unmarked-beyond g.nodes n (omega arith))

module _ (g : Graph) (fits : size g ≤ 1024) where
  marked-byte : (bytes : List ℕ) → MarkedBelow g 1024 bytes → (n : ℕ) → get_or bytes n 0 ≡ bit (is_marked g.nodes n)
  marked-byte bytes m n = go (dec_lt n 1024)
    where
      go : Dec (n < 1024) → get_or bytes n 0 ≡ bit (is_marked g.nodes n)
      go (yes below) = m.byte n below ∙ ap bit (marks-marked g n)
      go (no beyond) =
          get_or-eq_default bytes 0 {n = n} (omega (arith, m.long)) ∙ rw (unmarked-beyond g.nodes n (omega arith))

  pub sparing-start : (bytes : List ℕ) → MarkedBelow g 1024 bytes → Sparing g.nodes (size g) bytes
  sparing-start bytes m = record {
    long = m.long;
    bits = λ k. rw (marked-byte bytes m k) (bit-small (is_marked g.nodes k));
    rest = ap (keep_down g.nodes (size g - 1))
        (fun_ext (λ x. ap (λ (v : ℕ). eqb v 0) (marked-byte bytes m x) ∙ bit-zero (is_marked g.nodes x)));
  }

-- ---- One node

-- a byte made 0
spared-stays : (bytes : List ℕ) (a x : ℕ) → a < length bytes → stays (set bytes a 0) x ≡ (stays bytes x || eqb x a)
spared-stays bytes a x h = go (eqb x a) refl
  where
    go : (b : Bool) → eqb x a ≡ b → stays (set bytes a 0) x ≡ (stays bytes x || b)
    go true e =
        let same : x ≡ a = eqb-true x a e in
        eq-eqb (get_or (set bytes a 0) x 0) 0 (rw same (get_or-set_same bytes a 0 0 h)) ∙ sym (or-true (stays bytes x))
    go false e = ap (λ (v : ℕ). eqb v 0) (get_or-set_other bytes a x 0 0 (eqb-false x a e)) ∙ sym (or-false (stays bytes x))

spared-bits : (bytes : List ℕ) (a : ℕ) → a < length bytes → ((k : ℕ) → get_or bytes k 0 ≤ 1) → (k : ℕ) → get_or (set bytes a 0) k 0 ≤ 1
spared-bits bytes a h bits k = go (eqb k a) refl
  where
    go : (b : Bool) → eqb k a ≡ b → get_or (set bytes a 0) k 0 ≤ 1
    go true e =
        let same : k ≡ a = eqb-true k a e in
        rw same (omega (arith, get_or-set_same bytes a 0 0 h))
    go false e = omega (arith, bits k, get_or-set_other bytes a k 0 0 (eqb-false k a e))

keep-step : (ns : List Node) (m : ℕ) (kept : ℕ → Bool) → 0 < m → keep_down ns m kept ≡ keep_down ns (m - 1) (keep_links ns m kept)
keep-step ns zero kept h = absurd (omega arith)
keep-step ns (suc m) kept h =
    let down : suc m - 1 ≡ m = omega arith in
    ap (λ (j : ℕ). keep_down ns j (keep_links ns (suc m) kept)) (sym down)

module _ (ns : List Node) (n : ℕ) (bytes : List ℕ) (s : Sparing ns n bytes) (some : 1 < n) where
  -- the bytes after node n - 1's step
  stepped : (after : List ℕ) → stays after ≡ keep_links ns (n - 1) (stays bytes)
      → keep_down ns (n - 1 - 1) (stays after) ≡ keep_down ns (length ns - 1) (λ x. not (is_marked ns x))
  stepped after e =
      ap (keep_down ns (n - 1 - 1)) e ∙ sym (keep-step ns (n - 1) (stays bytes) (omega arith)) ∙ s.rest

  pub sparing-gone : (get_or bytes (n - 1) 0 ≡ 0 → ⊥) → Sparing ns (n - 1) bytes
  sparing-gone goes = record { long = s.long; bits = s.bits; rest = stepped bytes same }
    where
      same : stays bytes ≡ keep_links ns (n - 1) (stays bytes)
      same = fun_ext (λ x. sym (rw (ne_eqb (get_or bytes (n - 1) 0) 0 goes) (or-false (stays bytes x))))

  pub sparing-kept : (p o : ℕ) → p ≡ (node_at ns (n - 1)).parent → o ≡ (node_at ns (n - 1)).origin → p < 1024 → o < 1024
      → get_or bytes (n - 1) 0 ≡ 0 → Sparing ns (n - 1) (set (set bytes p 0) o 0)
  sparing-kept p o ep eo lp lo kept = record {
    long = length-set (set bytes p 0) o 0 ∙ length-set bytes p 0 ∙ s.long;
    bits = spared-bits (set bytes p 0) o within (spared-bits bytes p (omega (arith, s.long)) s.bits);
    rest = stepped (set (set bytes p 0) o 0) (fun_ext links);
  }
    where
      within : o < length (set bytes p 0)
      within = omega (arith, length-set bytes p 0, s.long)

      links : (x : ℕ) → stays (set (set bytes p 0) o 0) x ≡ keep_links ns (n - 1) (stays bytes) x
      links x =
          spared-stays (set bytes p 0) o x within
          ∙ ap (λ (b : Bool). b || eqb x o) (spared-stays bytes p x (omega (arith, s.long)))
          ∙ or_assoc (stays bytes x) (eqb x p) (eqb x o)
          ∙ rw (eq-eqb (get_or bytes (n - 1) 0) 0 kept, ep, eo)

-- ---- What is left

bit-told : (b : ℕ) (t : Bool) → b ≤ 1 → eqb b 0 ≡ t → b ≡ bit (not t)
bit-told b true h e = eqb-true b 0 e
bit-told b false h e = let other = eqb-false b 0 e in omega arith

module _ (g : Graph) (fits : size g ≤ 1024) where
  -- no number from the count on is erasable
  erasable-marks : (n : ℕ) → (ltb n (size g) && is_erasable g.nodes n) ≡ is_erasable g.nodes n
  erasable-marks n = go (dec_lt n (size g))
    where
      go : Dec (n < size g) → (ltb n (size g) && is_erasable g.nodes n) ≡ is_erasable g.nodes n
      go (yes below) = rw (lt-ltb n (size g) below)
      go (no beyond) =
          rw (le-ltb n (size g) (omega arith), unmarked-not-erasable g.nodes n (unmarked-beyond g.nodes n (omega arith)))

  pub sparing-ends : (n : ℕ) (bytes : List ℕ) → Sparing g.nodes n bytes → n ≤ 1 → bytes ≡ erasable g
  unfolding is_erasable
  sparing-ends n bytes s done = ext_get_or 0 bytes (erasable g) (s.long ∙ sym (erasable-length g)) each
    where
      all : stays bytes ≡ keep_down g.nodes (size g - 1) (λ x. not (is_marked g.nodes x))
      all = let none : n - 1 ≡ 0 = omega arith in rw none at s.rest

      each : (k : ℕ) → k < length bytes → get_or bytes k 0 ≡ get_or (erasable g) k 0
      each k h =
          bit-told (get_or bytes k 0) _ (s.bits k) (ap (λ (f : ℕ → Bool). f k) all)
          ∙ ap bit (sym (erasable-marks k)) ∙ sym (erasable-byte g fits k)
