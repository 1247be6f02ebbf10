-- The comparison the other way round: Less and Greater change places, rings included, in any view.
-- Equal is for a node and itself alone. Assumes nothing.
use mathlib.Core.Path.{◌≡◌, refl, sym, ap, ap₂, ◌∙◌}
use mathlib.Core.Bool.{Bool, true, false, ◌&&◌, cond, or_comm, and_comm}
use mathlib.Core.List.{List, [], ◌∷◌, ◌++◌}
use Prim.Native.Nat.{ℕ, zero, suc, ◌+◌}
use native.Mathlib.Nat.{add_comm}
use native.Mathlib.Omega.{arith}
use lib.Dec.{eqb, ltb}
use borrow.Author.Tests.{eqb-true, eqb-false, eq-eqb, ne_eqb, ltb-true, ltb-false}
use Rattle.std.specs.declared.cmp.Ordering.{Ordering}
use Rattle.std.specs.declared.cmp.Ordering.TheVariants.{Less, Equal, Greater}
use Rattle.model.specs.Strength.{View, first, smaller, having, is_authored, origin_root_node, is_nested_under, origins_are_nested, same_origin_lines, local_line, same_root_lines, origin_lines, depth_line, specializes_lines, plain_lines, sibling_lines, chain_up_to, chain, parting, nodes_by, siblings_up_to, compare_sibling_node_strength, compare_node_strength}

abbrev pub flip : Ordering → Ordering
flip Less = Greater
flip Equal = Equal
flip Greater = Less

pub flip-fixed : (o : Ordering) → o ≡ flip o → o ≡ Equal
flip-fixed Less e = cc
flip-fixed Equal e = refl
flip-fixed Greater e = cc

-- ---- The connectives

pub eqb-sym : (x y : ℕ) → eqb x y ≡ eqb y x
eqb-sym x y = go (eqb x y) refl
  where
    go : (t : Bool) → eqb x y ≡ t → t ≡ eqb y x
    go true e = sym (eq-eqb y x (sym (eqb-true x y e)))
    go false e = sym (ne_eqb y x (λ i. eqb-false x y e (sym i)))

flip-first : (x y : Ordering) → flip (first x y) ≡ first (flip x) (flip y)
flip-first Less y = refl
flip-first Equal y = refl
flip-first Greater y = refl

flip_cond : (b : Bool) (x y : Ordering) → flip (cond b x y) ≡ cond b (flip x) (flip y)
flip_cond true x y = refl
flip_cond false x y = refl

pub flip-smaller : (x y : ℕ) → flip (smaller x y) ≡ smaller y x
unfolding smaller
flip-smaller x y = rw (eqb-sym y x) (go (ltb x y) refl (ltb y x) refl (eqb x y) refl)
  where
    go : (i : Bool) → ltb x y ≡ i → (j : Bool) → ltb y x ≡ j → (t : Bool) → eqb x y ≡ t
        → flip (cond i Less (cond t Equal Greater)) ≡ cond j Less (cond t Equal Greater)
    go true e true f t g = absurd (omega (arith, ltb-true x y e, ltb-true y x f))
    go true e false f true g = absurd (omega (arith, ltb-true x y e, eqb-true x y g))
    go true e false f false g = refl
    go false e true f true g = absurd (omega (arith, ltb-true y x f, eqb-true x y g))
    go false e true f false g = refl
    go false e false f true g = refl
    go false e false f false g = let d = eqb-false x y g in absurd (omega (arith, ltb-false x y e, ltb-false y x f))

flip-having : (x y : Bool) → flip (having x y) ≡ having y x
flip-having true true = refl
flip-having true false = refl
flip-having false true = refl
flip-having false false = refl

flip-parting : (s : ℕ → ℕ → Ordering) → ((x y : ℕ) → flip (s x y) ≡ s y x) → (xs ys : List ℕ) → flip (parting s xs ys) ≡ parting s ys xs
flip-parting s flips [] [] = refl
flip-parting s flips [] (y ∷ ys) = refl
flip-parting s flips (x ∷ xs) [] = refl
flip-parting s flips (x ∷ xs) (y ∷ ys) =
    flip_cond (eqb x y) (parting s xs ys) (s x y) ∙ rw (eqb-sym x y, flip-parting s flips xs ys, flips x y)

-- ---- The lines

module _ (u : View) where
  nested-sym : (x y : ℕ) → origins_are_nested u x y ≡ origins_are_nested u y x
  unfolding origins_are_nested
  nested-sym x y = or_comm (is_nested_under u x y) (is_nested_under u y x)

  flip-same-origin : (a b : ℕ) → flip (same_origin_lines u a b) ≡ same_origin_lines u b a
  unfolding same_origin_lines
  flip-same-origin a b = simp (flip_cond, flip-first, flip-smaller, flip-having, or_comm (is_authored u a) (is_authored u b))

  flip-local : (a b : ℕ) → flip (local_line u a b) ≡ local_line u b a
  unfolding local_line
  flip-local a b =
      simp (flip_cond, flip-having, or_comm (is_authored u a) (is_authored u b), and_comm (u.local_stack a) (u.local_stack b))

  flip-depth : (a b : ℕ) → flip (depth_line u a b) ≡ depth_line u b a
  unfolding depth_line
  flip-depth a b = simp (flip_cond, flip-smaller, nested-sym (origin_root_node u a) (origin_root_node u b))

  module _ (nodes : ℕ → ℕ → Ordering) (flip-nodes : (x y : ℕ) → flip (nodes x y) ≡ nodes y x) (a b : ℕ) where
    flip-same-root : flip (same_root_lines u nodes a b) ≡ same_root_lines u nodes b a
    unfolding same_root_lines
    flip-same-root = simp (flip-first, flip-smaller, flip-local, flip-nodes)

    flip-origin : flip (origin_lines u nodes a b) ≡ origin_lines u nodes b a
    unfolding origin_lines
    flip-origin =
        simp (
          flip_cond,
          flip-first,
          flip-smaller,
          flip-same-origin,
          flip-same-root,
          flip-nodes,
          eqb-sym (u.origin a) (u.origin b),
          eqb-sym (origin_root_node u a) (origin_root_node u b),
        )

    flip-specializes : flip (specializes_lines u nodes a b) ≡ specializes_lines u nodes b a
    unfolding specializes_lines
    flip-specializes = simp (flip-first, flip-depth, flip-origin)

    flip-plain : flip (plain_lines u nodes a b) ≡ plain_lines u nodes b a
    unfolding plain_lines
    flip-plain = simp (flip-first, flip-smaller, flip-nodes)

    pub flip-lines : flip (sibling_lines u nodes a b) ≡ sibling_lines u nodes b a
    unfolding sibling_lines
    flip-lines = simp (flip-first, flip_cond, flip-smaller, flip-specializes, flip-plain, and_comm (u.special a) (u.special b))

  pub flip-nodes-by : (s : ℕ → ℕ → Ordering) → ((x y : ℕ) → flip (s x y) ≡ s y x) → (a b : ℕ)
      → flip (nodes_by u.parent s a b) ≡ nodes_by u.parent s b a
  unfolding nodes_by
  flip-nodes-by s flips a b = flip-parting s flips (chain u.parent a) (chain u.parent b)

  flip-up-to : (k a b : ℕ) → flip (siblings_up_to u k a b) ≡ siblings_up_to u k b a
  flip-up-to zero a b = flip-smaller a b
  flip-up-to (suc k) a b =
      flip_cond (ltb 0 a && ltb 0 b) _ _
      ∙ rw (
        and_comm (ltb 0 a) (ltb 0 b),
        flip-smaller,
        flip-lines (nodes_by u.parent (siblings_up_to u k)) (flip-nodes-by (siblings_up_to u k) (flip-up-to k)) a b,
      )

  -- ---- The comparisons

  pub siblings-flip : (a b : ℕ) → compare_sibling_node_strength u b a ≡ flip (compare_sibling_node_strength u a b)
  unfolding compare_sibling_node_strength
  siblings-flip a b = rw (add_comm b a) (sym (flip-up-to (suc (a + b)) a b))

  pub nodes-flip : (a b : ℕ) → compare_node_strength u b a ≡ flip (compare_node_strength u a b)
  unfolding compare_node_strength
  nodes-flip a b = sym (flip-nodes-by (compare_sibling_node_strength u) (λ x y. sym (siblings-flip x y)) a b)

  -- ---- Never both Less

  less-flips : (o : Ordering) → o ≡ Less → flip o ≡ Less → ⊥
  less-flips o e f = let z : ◌≡◌ {A = ℕ} 0 1 = cc in absurd (omega arith)

  pub siblings-not-both-less : (a b : ℕ) → compare_sibling_node_strength u a b ≡ Less → compare_sibling_node_strength u b a ≡ Less → ⊥
  siblings-not-both-less a b e f = less-flips (compare_sibling_node_strength u a b) e (sym (siblings-flip a b) ∙ f)

  pub nodes-not-both-less : (a b : ℕ) → compare_node_strength u a b ≡ Less → compare_node_strength u b a ≡ Less → ⊥
  nodes-not-both-less a b e f = less-flips (compare_node_strength u a b) e (sym (nodes-flip a b) ∙ f)

-- ---- Equal: every list of lines ends in the node numbers

module _ (a b : ℕ) where
  abbrev Ends : Ordering → Type 0
  Ends o = o ≡ Equal → a ≡ b

  ends-first : (x y : Ordering) → Ends y → Ends (first x y)
  ends-first Less y h e = cc
  ends-first Equal y h e = h e
  ends-first Greater y h e = cc

  ends-cond : (t : Bool) (x y : Ordering) → Ends x → Ends y → Ends (cond t x y)
  ends-cond true x y h k = h
  ends-cond false x y h k = k

  ends-smaller : Ends (smaller a b)
  unfolding smaller
  ends-smaller = go (ltb a b) (eqb a b) refl
    where
      go : (i t : Bool) → eqb a b ≡ t → Ends (cond i Less (cond t Equal Greater))
      go true t f e = cc
      go false true f e = eqb-true a b f
      go false false f e = cc

  ends-lines : (u : View) (nodes : ℕ → ℕ → Ordering) → Ends (sibling_lines u nodes a b)
  unfolding sibling_lines specializes_lines plain_lines origin_lines same_origin_lines same_root_lines
  ends-lines u nodes = search (ends-first, ends-cond, ends-smaller) depth 12

module _ (u : View) where
  pub siblings-equal : (a b : ℕ) → compare_sibling_node_strength u a b ≡ Equal → a ≡ b
  unfolding compare_sibling_node_strength
  siblings-equal a b = ends-cond a b (ltb 0 a && ltb 0 b) _ _ (ends-lines a b u _) (ends-smaller a b)

  pub siblings-same : (a : ℕ) → compare_sibling_node_strength u a a ≡ Equal
  siblings-same a = flip-fixed (compare_sibling_node_strength u a a) (siblings-flip u a a)

-- ---- Nodes: chains that do not part are one chain, and a chain ends in its node

-- the last of x and the list
abbrev last_of : ℕ → List ℕ → ℕ
last_of x [] = x
last_of x (y ∷ ys) = last_of y ys

last-appended : (x : ℕ) (ys : List ℕ) (y : ℕ) → last_of x (ys ++ (y ∷ [])) ≡ y
last-appended x [] y = refl
last-appended x (z ∷ ys) y = last-appended z ys y

chain-last : (next : ℕ → ℕ) (k x m : ℕ) → last_of x (chain_up_to next k m) ≡ m
chain-last next zero x m = refl
chain-last next (suc k) x m = go (eqb m 0)
  where
    go : (t : Bool) → last_of x (cond t (m ∷ []) (chain_up_to next k (next m) ++ (m ∷ []))) ≡ m
    go true = refl
    go false = last-appended x (chain_up_to next k (next m)) m

parting-equal : (s : ℕ → ℕ → Ordering) → ((x y : ℕ) → s x y ≡ Equal → x ≡ y) → (xs ys : List ℕ) → parting s xs ys ≡ Equal → xs ≡ ys
parting-equal s equal [] [] e = refl
parting-equal s equal [] (y ∷ ys) e = cc
parting-equal s equal (x ∷ xs) [] e = cc
parting-equal s equal (x ∷ xs) (y ∷ ys) e = go (eqb x y) refl e (parting-equal s equal xs ys)
  where
    go : (t : Bool) → eqb x y ≡ t → cond t (parting s xs ys) (s x y) ≡ Equal → (parting s xs ys ≡ Equal → xs ≡ ys) → x ∷ xs ≡ y ∷ ys
    go true f e ih = ap₂ ◌∷◌ (eqb-true x y f) (ih e)
    go false f e ih = absurd (eqb-false x y f (equal x y e))

pub nodes-equal : (u : View) (a b : ℕ) → compare_node_strength u a b ≡ Equal → a ≡ b
unfolding compare_node_strength nodes_by
nodes-equal u a b e =
    sym (chain-last u.parent a 0 a)
    ∙ ap (last_of 0) (parting-equal (compare_sibling_node_strength u) (siblings-equal u) (chain u.parent a) (chain u.parent b) e)
    ∙ chain-last u.parent b 0 b
