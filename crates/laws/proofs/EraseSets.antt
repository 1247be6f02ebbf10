-- Question 11: which erase sets are accepted, and that the erasable set, as it is written, is one.
-- Assumes nothing.
use mathlib.Core.Path.{◌≡◌, refl, sym, ap, ◌∙◌}
use mathlib.Core.Logic.{◌↔◌}
use mathlib.Core.Bool.{Bool, true, false, not, ◌||◌, ◌&&◌, true≢false, false≢true, and-eq-true_iff}
use mathlib.Core.List.{List, [], ◌∷◌}
use Prim.Native.Nat.{ℕ, zero, suc, ◌+◌, ◌≤◌, ◌<◌}
use native.Mathlib.Nat.{add-zero, zero-add}
use native.Mathlib.Omega.{arith}
use lib.Dec.{eqb, ltb, leb}
use lib.ListN.{length, get_or, get_or-eq_default}
use borrow.Author.Tests.{eqb-true, eqb-false, eq-eqb, ne_eqb, ltb-true, ltb-false, lt-ltb, le-ltb, leb-true, le-leb, not-true}
use Rattle.model.specs.Lists.{bit}
use Rattle.model.specs.Node.{root_arc, Node, is_culled}
use Rattle.model.specs.Graph.{Graph, size, node_at}
use Rattle.model.specs.Strength.{view}
use Rattle.model.specs.Culling.{is_marked, is_erasable}
use Rattle.model.specs.Erasing.{stays, bytes_from, erasable, spares_one, can_erase}
use Rattle.laws.proofs.Views.{LegalView}
use Rattle.laws.proofs.ErasableLaws.{Spared, erasable-spared, node-0-unmarked, unculled-unmarked, unmarked-not-erasable}
use Rattle.laws.proofs.Spares.{Spares}
use Rattle.laws.proofs.ListLaws.{all-below}

-- ---- Question 11

-- what it asks of one node
record SparesAt (g : Graph) (bytes : List ℕ) (n : ℕ) : Type 0 where
  pub byte : get_or bytes n 0 ≤ 1
  pub root : (node_at g.nodes n).arc ≡ root_arc → stays bytes n ≡ true
  pub parent : 0 < n → stays bytes n ≡ true → stays bytes (node_at g.nodes n).parent ≡ true
  pub origin : 0 < n → stays bytes n ≡ true → stays bytes (node_at g.nodes n).origin ≡ true

-- the test of one node, over what it reads: the byte, that the node stays, is 0, has both links
-- among what stays, and is a Root arc
test-there : (byte here zeroth links root : Bool) → (byte && (not here || (zeroth || links)) && (here || not root)) ≡ true
    → (byte ≡ true) × (zeroth ≡ false → here ≡ true → links ≡ true) × (root ≡ true → here ≡ true)
test-there false here zeroth links root e = absurd (false≢true e)
test-there true true true links root e = (refl, λ z h. absurd (true≢false z), λ r. refl)
test-there true true false true root e = (refl, λ z h. refl, λ r. refl)
test-there true true false false root e = absurd (false≢true e)
test-there true false zeroth links true e = absurd (false≢true e)
test-there true false zeroth links false e = (refl, λ z h. absurd (false≢true h), λ r. r)

test_back : (byte here zeroth links root : Bool)
    → (byte ≡ true) × (zeroth ≡ false → here ≡ true → links ≡ true) × (root ≡ true → here ≡ true)
    → (byte && (not here || (zeroth || links)) && (here || not root)) ≡ true
test_back false here zeroth links root h = h.0
test_back true true true links root h = refl
test_back true true false links root h = rw (h.1 refl refl)
test_back true false zeroth links true h = h.2 refl
test_back true false zeroth links false h = refl

module _ (g : Graph) (bytes : List ℕ) (n : ℕ) where
  abbrev both_stay : Bool
  both_stay = stays bytes (node_at g.nodes n).parent && stays bytes (node_at g.nodes n).origin

  spares-one-there : spares_one g bytes n ≡ true → SparesAt g bytes n
  spares-one-there e =
      let h = test-there (leb (get_or bytes n 0) 1) (stays bytes n) (eqb n 0) both_stay (eqb (node_at g.nodes n).arc root_arc) e in
      let links : 0 < n → stays bytes n ≡ true → both_stay ≡ true = λ p f. h.1 (ne_eqb n 0 (λ z. omega arith)) f in
      record {
        byte = leb-true (get_or bytes n 0) 1 h.0;
        root = λ r. h.2 (eq-eqb (node_at g.nodes n).arc root_arc r);
        parent = λ p f. ((and-eq-true_iff (stays bytes (node_at g.nodes n).parent) _).0 (links p f)).0;
        origin = λ p f. ((and-eq-true_iff (stays bytes (node_at g.nodes n).parent) _).0 (links p f)).1;
      }

  spares-one-back : SparesAt g bytes n → spares_one g bytes n ≡ true
  spares-one-back s =
      test_back (leb (get_or bytes n 0) 1) (stays bytes n) (eqb n 0) both_stay (eqb (node_at g.nodes n).arc root_arc) (
        le-leb (get_or bytes n 0) 1 s.byte,
        (λ z f. let p = eqb-false n 0 z in (and-eq-true_iff _ _).1 (s.parent (omega arith) f, s.origin (omega arith) f)),
        λ r. s.root (eqb-true (node_at g.nodes n).arc root_arc r),
      )

has-node-0 : (ns : List Node) → (node_at ns 0).arc ≡ root_arc → 0 < length ns
has-node-0 [] e = absurd (omega arith)
has-node-0 (x ∷ ns) e = omega arith

module _ (g : Graph) (bytes : List ℕ) where
  accepted-spares : (node_at g.nodes 0).arc ≡ root_arc → can_erase g bytes ≡ true
      → ((n : ℕ) → n < size g → get_or bytes n 0 ≤ 1) × Spares g (stays bytes)
  unfolding can_erase
  accepted-spares root e = (
    (λ n p. (at n p).byte),
    record {
      node0 = (at 0 (has-node-0 g.nodes root)).root root;
      roots = λ n p. (at n p).root;
      parent = λ c q p. (at c p).parent q;
      origin = λ c q p. (at c p).origin q;
    },
  )
    where
      at : (n : ℕ) → n < size g → SparesAt g bytes n
      at n p = spares-one-there g bytes n ((all-below (spares_one g bytes) (size g)).0 e n p)

  spares-accepted : ((n : ℕ) → n < size g → get_or bytes n 0 ≤ 1) → Spares g (stays bytes) → can_erase g bytes ≡ true
  unfolding can_erase
  spares-accepted small s =
      (all-below (spares_one g bytes) (size g)).1
      (λ n p. spares-one-back g bytes n
      (record { byte = small n p; root = s.roots n p; parent = λ q. s.parent n q p; origin = λ q. s.origin n q p }))

  -- question 11 is yes exactly where each byte below the count is 0 or 1 and what must stay does;
  -- node 0 has arc Root
  pub can-erase-iff : (node_at g.nodes 0).arc ≡ root_arc
      → can_erase g bytes ≡ true ↔ (((n : ℕ) → n < size g → get_or bytes n 0 ≤ 1) × Spares g (stays bytes))
  can-erase-iff root = (accepted-spares root, λ h. spares-accepted h.0 h.1)

-- ---- The erasable set as bytes

bytes-length : (goes : ℕ → Bool) (at n : ℕ) → length (bytes_from goes at n) ≡ n
bytes-length goes at zero = refl
bytes-length goes at (suc n) = ap suc (bytes-length goes (suc at) n)

bytes-at : (goes : ℕ → Bool) (at n i : ℕ) → i < n → get_or (bytes_from goes at n) i 0 ≡ bit (goes (at + i))
bytes-at goes at zero i h = absurd (omega arith)
bytes-at goes at (suc n) zero h = rw (add-zero at)
bytes-at goes at (suc n) (suc i) h =
    let same : suc at + i ≡ at + suc i = omega arith in bytes-at goes (suc at) n i (omega arith) ∙ ap (λ (k : ℕ). bit (goes k)) same

-- as many as question 1 asks for
pub erasable-length : (g : Graph) → length (erasable g) ≡ 1024
unfolding erasable
erasable-length g = bytes-length (λ n. ltb n (size g) && is_erasable g.nodes n) 0 1024

bit-small : (b : Bool) → bit b ≤ 1
bit-small true = omega arith
bit-small false = omega arith

bit-one : (b : Bool) → bit b ≡ 1 → b ≡ true
bit-one true e = refl
bit-one false e = absurd (omega arith)

bit-zero : (b : Bool) → eqb (bit b) 0 ≡ not b
bit-zero true = refl
bit-zero false = refl

module _ (g : Graph) (fits : size g ≤ 1024) where
  -- 1 for the erasable nodes, 0 for the others and from the count on
  pub erasable-byte : (n : ℕ) → get_or (erasable g) n 0 ≡ bit (ltb n (size g) && is_erasable g.nodes n)
  unfolding erasable
  erasable-byte n = go (ltb n 1024) refl
    where
      go : (b : Bool) → ltb n 1024 ≡ b → get_or (erasable g) n 0 ≡ bit (ltb n (size g) && is_erasable g.nodes n)
      go true e =
          bytes-at (λ n. ltb n (size g) && is_erasable g.nodes n) 0 1024 n (ltb-true n 1024 e)
          ∙ ap (λ (k : ℕ). bit (ltb k (size g) && is_erasable g.nodes k)) (zero-add n)
      go false e =
          let beyond = ltb-false n 1024 e in
          get_or-eq_default (erasable g) 0 {n = n} (omega (arith, erasable-length g))
          ∙ rw (le-ltb n (size g) (omega arith))

  pub erasable-byte-iff : (n : ℕ) → get_or (erasable g) n 0 ≡ 1 ↔ ((n < size g) × (is_erasable g.nodes n ≡ true))
  erasable-byte-iff n = (there, λ h. erasable-byte n ∙ rw (lt-ltb n (size g) h.0, h.1))
    where
      there : get_or (erasable g) n 0 ≡ 1 → (n < size g) × (is_erasable g.nodes n ≡ true)
      there e =
          let both = (and-eq-true_iff (ltb n (size g)) (is_erasable g.nodes n)).0 (bit-one _ (sym (erasable-byte n) ∙ e)) in
          (ltb-true n (size g) both.0, both.1)

  pub erasable-beyond : (n : ℕ) → size g ≤ n → get_or (erasable g) n 0 ≡ 0
  erasable-beyond n h = erasable-byte n ∙ rw (le-ltb n (size g) h)

  -- what stays is the rest
  pub erasable-stays : (n : ℕ) → n < size g → stays (erasable g) n ≡ not (is_erasable g.nodes n)
  erasable-stays n p =
      ap (λ (k : ℕ). eqb k 0) (erasable-byte n) ∙ bit-zero (ltb n (size g) && is_erasable g.nodes n) ∙ rw (lt-ltb n (size g) p)

  -- ---- Question 11 accepts it, if no Root arc is CULLED

  module _ (legal : LegalView (size g) (view g.nodes)) (some : 0 < size g)
      (roots : (n : ℕ) → n < size g → (node_at g.nodes n).arc ≡ root_arc → is_culled (node_at g.nodes n) ≡ false) where
    unmarked-stays : (n : ℕ) → n < size g → is_marked g.nodes n ≡ false → stays (erasable g) n ≡ true
    unmarked-stays n p e = erasable-stays n p ∙ ap not (unmarked-not-erasable g.nodes n e)

    -- a lower node that no node that stays may lose
    link_stays : (c n : ℕ) → c < size g → n < c → (is_erasable g.nodes c ≡ false → is_erasable g.nodes n ≡ false)
        → stays (erasable g) c ≡ true → stays (erasable g) n ≡ true
    link_stays c n p q h e = erasable-stays n (omega arith) ∙ ap not (h (not-true _ (sym (erasable-stays c p) ∙ e)))

    pub erasable-spares : Spares g (stays (erasable g))
    erasable-spares = record {
      node0 = unmarked-stays 0 some (node-0-unmarked g.nodes);
      roots = λ n p r. unmarked-stays n p (unculled-unmarked g.nodes n (roots n p r));
      parent = λ c q p. link_stays c (node_at g.nodes c).parent p (legal.parent-lower c q p) (spared.no-parent c q p);
      origin = λ c q p. link_stays c (node_at g.nodes c).origin p (legal.origin-lower c q p) (spared.no_origin c q p);
    }
      where
        spared : Spared g.nodes (is_erasable g.nodes)
        spared = erasable-spared g.nodes legal some

    pub erasable-accepted : can_erase g (erasable g) ≡ true
    erasable-accepted =
        spares-accepted g (erasable g) (λ n p. rw (erasable-byte n) (bit-small (ltb n (size g) && is_erasable g.nodes n))) erasable-spares
