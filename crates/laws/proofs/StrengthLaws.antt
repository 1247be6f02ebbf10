-- Document 01's comparison with no fuel in it: siblings by its lines (`compare-siblings-lines`),
-- nodes where their chains part (`compare-nodes-parting`). That fuel does not matter is the
-- congruence of StrengthCongruence.antt, of a view and itself. The walks that the lines name are in
-- StrengthWalks.antt, `follow`, `steps` and `chain` in FollowLaws.antt. Assumes nothing.
use mathlib.Core.Path.{◌≡◌, refl, ◌∙◌}
use mathlib.Core.Bool.{true}
use mathlib.Core.List.{List, [], ◌∷◌, ◌++◌}
use Prim.Native.Nat.{ℕ, suc, ◌+◌, ◌<◌}
use native.Mathlib.Omega.{arith}
use borrow.Author.Tests.{eq-eqb, ne_eqb, lt-ltb}
use Rattle.std.specs.declared.cmp.Ordering.TheVariants.{Less, Equal, Greater}
use Rattle.model.specs.Strength.{View, sibling_lines, chain, parting_by, parting, nodes_by, siblings_up_to, compare_sibling_node_strength, compare_node_strength}
use Rattle.laws.proofs.Views.{LegalView, LooksLike}
use Rattle.laws.proofs.StrengthCongruence.{lower-pairs-alike, siblings-up-to-alike}

-- ---- Siblings

pub looks-like-itself : (n : ℕ) (u : View) → LooksLike n (λ c. true) (λ c. c) u u
looks-like-itself n u = record {
  root_kept = refl;
  root-stays = refl;
  same_number = λ a b _ _. refl;
  same-sequence = λ a b _ _. refl;
  parent-kept = λ c _ _ _. refl;
  origin-kept = λ c _ _ _. refl;
  parents = λ c _ _ _. refl;
  origins = λ c _ _ _. refl;
  ranks = λ a _ _. refl;
  arcs = λ a _ _. refl;
  specials = λ a _ _. refl;
  depths = λ a _ _. refl;
  siblings = λ a _ _. refl;
  sites = λ a b _ _ _ _. refl;
  depths-below = λ a b _ _ _ _. refl;
  local-roots = λ a _ _. refl;
  local-stacks = λ a _ _. refl;
}

-- siblings compare by document 01's lines, which ask the comparison of nodes; a and b need not have
-- one parent
pub compare-siblings-lines : {n : ℕ} {u : View} → LegalView n u → (a b : ℕ) → 0 < a → 0 < b → a < n → b < n
    → compare_sibling_node_strength u a b ≡ sibling_lines u (compare_node_strength u) a b
unfolding compare_sibling_node_strength compare_node_strength
compare-siblings-lines {n} {u} legal a b ha hb p q =
    let itself = looks-like-itself n u in
    rw (lt-ltb 0 a ha, lt-ltb 0 b hb)
    (lower-pairs-alike legal itself a b ha hb p q refl refl (compare_sibling_node_strength u) (siblings_up_to u (a + b))
    (λ c d _ _ i j _ _ h _. siblings-up-to-alike legal itself (suc (c + d)) (a + b) c d i j refl refl (omega arith) h))

-- ---- Nodes

-- what is said of two chains, whatever it is: the common front does not count, and then one of them
-- ends, or both go on
module _ {A : Type 0} (same above below : A) (siblings : ℕ → ℕ → A) where
  parting-front : (ps xs ys : List ℕ) → parting_by same above below siblings (ps ++ xs) (ps ++ ys) ≡ parting_by same above below siblings xs ys
  parting-front [] xs ys = refl
  parting-front (p ∷ ps) xs ys = rw (eq-eqb p p refl) (parting-front ps xs ys)

  pub parting-same : (ps : List ℕ) → parting_by same above below siblings ps ps ≡ same
  parting-same [] = refl
  parting-same (p ∷ ps) = rw (eq-eqb p p refl) (parting-same ps)

  pub parting-above : (ps : List ℕ) (y : ℕ) (ys : List ℕ) → parting_by same above below siblings ps (ps ++ (y ∷ ys)) ≡ above
  parting-above [] y ys = refl
  parting-above (p ∷ ps) y ys = rw (eq-eqb p p refl) (parting-above ps y ys)

  pub parting-below : (ps : List ℕ) (x : ℕ) (xs : List ℕ) → parting_by same above below siblings (ps ++ (x ∷ xs)) ps ≡ below
  parting-below [] x xs = refl
  parting-below (p ∷ ps) x xs = rw (eq-eqb p p refl) (parting-below ps x xs)

  pub parting-apart : (ps : List ℕ) (x y : ℕ) (xs ys : List ℕ) → (x ≡ y → ⊥)
      → parting_by same above below siblings (ps ++ (x ∷ xs)) (ps ++ (y ∷ ys)) ≡ siblings x y
  parting-apart ps x y xs ys differ = rw (parting-front ps (x ∷ xs) (y ∷ ys), ne_eqb x y differ)

module _ (u : View) where
  -- "compare the siblings where the chains part"
  pub compare-nodes-parting : (a b : ℕ)
      → compare_node_strength u a b ≡ parting (compare_sibling_node_strength u) (chain u.parent a) (chain u.parent b)
  unfolding compare_node_strength nodes_by
  compare-nodes-parting a b = refl

  -- "the same node is Equal"
  pub compare_same : (a : ℕ) → compare_node_strength u a a ≡ Equal
  compare_same a = compare-nodes-parting a a ∙ parting-same Equal Less Greater (compare_sibling_node_strength u) (chain u.parent a)
