-- The one congruence of the comparison: where v looks like u under new numbers (Views.antt), kept
-- nodes compare in v as in u. Each notion and each line of specs/Strength.antt has its own law.
-- Erasing, deepening, seeding and "fuel does not matter" (StrengthLaws.antt) are cases of it.
-- Assumes nothing.
use mathlib.Core.Path.{◌≡◌, refl, sym, ap, ap₂, ◌∙◌}
use mathlib.Core.Bool.{Bool, true, false, not, ◌&&◌, cond}
use mathlib.Core.List.{List, [], ◌∷◌, ◌++◌, map}
use Prim.Native.Nat.{ℕ, zero, suc, ◌+◌, ◌≤◌, ◌<◌}
use native.Mathlib.Omega.{arith}
use native.Mathlib.Decide.{dec_lt}
use lib.Dec.{eqb, ltb}
use borrow.Author.Tests.{eqb-true, eqb-false, eq-eqb, ltb-true, ltb-false, lt-ltb, le-ltb}
use Rattle.std.specs.declared.cmp.Ordering.{Ordering}
use Rattle.model.specs.Node.{relocate_arc, specialize_arc}
use Rattle.model.specs.Strength.{View, smaller, having, follow, is_authored, is_implied, is_propagated_specializes, origin_root_node, origin_hops, outward, is_nested_under, origins_are_nested, replaced, class_hierarchy_from, starting_node_of_class_hierarchy, skip_relocates, namespace_depth_for_class_hierarchy, class_depth, implied_over, same_origin_lines, local_line, same_root_lines, origin_lines, depth_line, specializes_lines, plain_lines, sibling_lines, chain, parting, nodes_by, siblings_up_to, compare_sibling_node_strength, compare_node_strength}
use Rattle.laws.proofs.Views.{LegalView, LooksLike}
use Rattle.laws.proofs.FollowLaws.{Renumbers, StepsAlike, StopsAlike, follow-alike, steps_alike, chain-alike, chain-step, follow-keeps, cond_map}
use Rattle.laws.proofs.StrengthWalks.{leaves_class, class_up, cond_both, propagated-positive, origin-below, parent-below, outward-lower, replaced-below, class-up-lower, origin-root-lower, origin-root-le, origin-root-below, starting-node-below, skip_below}

-- ---- Chains

-- x is a kept child of p, no higher than top
record Child (keep : ℕ → Bool) (parent : ℕ → ℕ) (top p x : ℕ) : Type 0 where
  positive : 0 < x
  within : x ≤ top
  kept : keep x ≡ true
  under : parent x ≡ p

-- the list leads from p, each the child of the one before, to m
Down : (ℕ → Bool) → (ℕ → ℕ) → ℕ → ℕ → List ℕ → ℕ → Type 0
Down keep parent top p [] m = p ≡ m
Down keep parent top p (x ∷ xs) m = Child keep parent top p x × Down keep parent top x xs m

down-last : (keep : ℕ → Bool) (parent : ℕ → ℕ) (top p : ℕ) (xs : List ℕ) (m : ℕ)
    → Down keep parent top p xs (parent m) → Child keep parent top (parent m) m → Down keep parent top p (xs ++ (m ∷ [])) m
unfolding Down
down-last keep parent top p [] m d c = (record { positive = c.positive; within = c.within; kept = c.kept; under = sym d }, refl)
down-last keep parent top p (x ∷ xs) m d c = (d.0, down-last keep parent top x xs m d.1 c)

module _ {n : ℕ} {keep : ℕ → Bool} {r : ℕ → ℕ} {u v : View} (legal : LegalView n u) (looks : LooksLike n keep r u v) where
  -- ---- Numbers

  rises : (a b : ℕ) → keep a ≡ true → keep b ≡ true → a < b → r a < r b
  rises a b k l h = ltb-true (r a) (r b) (looks.same-sequence a b k l ∙ lt-ltb a b h)

  never-falls : (a b : ℕ) → keep a ≡ true → keep b ≡ true → a ≤ b → r a ≤ r b
  never-falls a b k l h = ltb-false (r b) (r a) (looks.same-sequence b a l k ∙ le-ltb b a h)

  renumbers : Renumbers keep r
  renumbers = record { root_kept = looks.root_kept; root-stays = looks.root-stays; rises = rises }

  positive-alike : (a : ℕ) → keep a ≡ true → ltb 0 (r a) ≡ ltb 0 a
  positive-alike a k = rw looks.root-stays at (looks.same-sequence 0 a looks.root_kept k)

  smaller-alike : (a b : ℕ) → keep a ≡ true → keep b ≡ true → smaller (r a) (r b) ≡ smaller a b
  unfolding smaller
  smaller-alike a b k l = rw (looks.same-sequence a b k l, looks.same_number a b k l)

  -- ---- The notions, of one kept node

  module _ (c : ℕ) (h : 0 < c) (p : c < n) (k : keep c ≡ true) where
    authored-alike : is_authored v (r c) ≡ is_authored u c
    authored-alike =
        rw (looks.origins c h p k, looks.parents c h p k)
        (looks.same_number (u.origin c) (u.parent c) (looks.origin-kept c h p k) (looks.parent-kept c h p k))

    origin-site-alike : v.same_site (r c) (v.origin (r c)) ≡ u.same_site c (u.origin c)
    origin-site-alike = rw (looks.origins c h p k) (looks.sites c (u.origin c) p (origin-below legal c h p) k (looks.origin-kept c h p k))

    implied-alike : is_implied v (r c) ≡ is_implied u c
    implied-alike = ap not origin-site-alike

  propagated-alike : (c : ℕ) → c < n → keep c ≡ true → is_propagated_specializes v (r c) ≡ is_propagated_specializes u c
  unfolding is_propagated_specializes
  propagated-alike c p k = rw (positive-alike c k) (go (ltb 0 c) refl)
    where
      go : (b : Bool) → ltb 0 c ≡ b
          → (b && (eqb (v.arc (r c)) specialize_arc && (v.local_root (v.parent (r c)) && v.same_site (r c) (v.origin (r c)))))
          ≡ (b && (eqb (u.arc c) specialize_arc && (u.local_root (u.parent c) && u.same_site c (u.origin c))))
      go true e =
          let h = ltb-true 0 c e in
          rw (
            looks.arcs c p k,
            origin-site-alike c h p k,
            looks.parents c h p k,
            looks.local-roots (u.parent c) (parent-below legal c h p) (looks.parent-kept c h p k),
          )
      go false e = refl

  module _ (c : ℕ) (h : 0 < c) (p : c < n) (k : keep c ≡ true) where
    outward-kept : keep (outward u c) ≡ true
    unfolding outward
    outward-kept = cond_both (λ x. keep x ≡ true) (is_propagated_specializes u c) (looks.origin-kept c h p k) (looks.parent-kept c h p k)

    outward-alike : outward v (r c) ≡ r (outward u c)
    unfolding outward
    outward-alike =
        rw (propagated-alike c p k, looks.origins c h p k, looks.parents c h p k) (cond_map r (is_propagated_specializes u c) _ _)

  replaced-kept : (c : ℕ) → c < n → keep c ≡ true → keep (replaced u c) ≡ true
  unfolding replaced
  replaced-kept c p k = go (is_propagated_specializes u c) refl
    where
      go : (b : Bool) → is_propagated_specializes u c ≡ b → keep (cond b (u.origin c) c) ≡ true
      go true e = looks.origin-kept c (propagated-positive u c e) p k
      go false e = k

  replaced-alike : (c : ℕ) → c < n → keep c ≡ true → replaced v (r c) ≡ r (replaced u c)
  unfolding replaced
  replaced-alike c p k = rw (propagated-alike c p k) (go (is_propagated_specializes u c) refl)
    where
      go : (b : Bool) → is_propagated_specializes u c ≡ b → cond b (v.origin (r c)) (r c) ≡ r (cond b (u.origin c) c)
      go true e = looks.origins c (propagated-positive u c e) p k
      go false e = refl

  -- ---- The steps of the walks

  parent-steps : StepsAlike n keep r u.parent v.parent
  parent-steps = record { lower = λ c h p k. legal.parent-lower c h p; kept = looks.parent-kept; nexts = looks.parents }

  origin-steps : StepsAlike n keep r u.origin v.origin
  origin-steps = record { lower = λ c h p k. legal.origin-lower c h p; kept = looks.origin-kept; nexts = looks.origins }

  outward-steps : StepsAlike n keep r (outward u) (outward v)
  outward-steps = record { lower = λ c h p k. outward-lower legal c h p; kept = outward-kept; nexts = outward-alike }

  class-steps : StepsAlike n keep r (class_up u) (class_up v)
  class-steps = record {
    lower = λ c h p k. class-up-lower legal c h p;
    kept = λ c h p k. replaced-kept (u.parent c) (parent-below legal c h p) (looks.parent-kept c h p k);
    nexts = λ c h p k. rw (looks.parents c h p k) (replaced-alike (u.parent c) (parent-below legal c h p) (looks.parent-kept c h p k));
  }

  -- where a walk of kept nodes comes to is kept
  follow-kept : {next next' : ℕ → ℕ} → StepsAlike n keep r next next' → (stop : ℕ → Bool) (m : ℕ) → m < n → keep m ≡ true
      → keep (follow stop next m) ≡ true
  follow-kept {next} goes stop m p k =
      (follow-keeps stop next (λ c. (c ≤ m) × (keep c ≡ true))
      (λ c h i. let d = goes.lower c h (omega arith) i.1 in (omega arith, goes.kept c h (omega arith) i.1)) m m (omega arith, k)).1

  -- ---- The walks, from one kept node

  authored-stops : StopsAlike n keep r (is_authored u) (is_authored v)
  authored-stops = record { stops = authored-alike }

  relocate-stops : StopsAlike n keep r (λ c. not (eqb (u.arc c) relocate_arc)) (λ c. not (eqb (v.arc c) relocate_arc))
  relocate-stops = record { stops = λ c h p k. rw (looks.arcs c p k) }

  module _ (c : ℕ) (p : c < n) (k : keep c ≡ true) where
    origin-root-kept : keep (origin_root_node u c) ≡ true
    unfolding origin_root_node
    origin-root-kept = follow-kept origin-steps (is_authored u) c p k

    origin-root-alike : origin_root_node v (r c) ≡ r (origin_root_node u c)
    unfolding origin_root_node
    origin-root-alike = follow-alike renumbers authored-stops origin-steps c p k

    origin-hops-alike : origin_hops v (r c) ≡ origin_hops u c
    unfolding origin_hops
    origin-hops-alike = steps_alike renumbers authored-stops origin-steps c p k

    class-stops : StopsAlike n keep r (leaves_class u c) (leaves_class v (r c))
    class-stops = record { stops = λ m h q l. rw (looks.arcs m q l, looks.depths-below c m p q k l) }

    class-hierarchy-kept : keep (class_hierarchy_from u c) ≡ true
    class-hierarchy-kept = follow-kept class-steps (leaves_class u c) c p k

    class-hierarchy-alike : class_hierarchy_from v (r c) ≡ r (class_hierarchy_from u c)
    class-hierarchy-alike = follow-alike renumbers class-stops class-steps c p k

    skip-kept : keep (skip_relocates u c) ≡ true
    unfolding skip_relocates
    skip-kept = follow-kept parent-steps (λ m. not (eqb (u.arc m) relocate_arc)) c p k

    skip-alike : skip_relocates v (r c) ≡ r (skip_relocates u c)
    unfolding skip_relocates
    skip-alike = follow-alike renumbers relocate-stops parent-steps c p k

  module _ (c : ℕ) (p : c < n) (k : keep c ≡ true) where
    starting-node-kept : keep (starting_node_of_class_hierarchy u c) ≡ true
    unfolding starting_node_of_class_hierarchy
    starting-node-kept = class-hierarchy-kept (replaced u c) (replaced-below legal c p) (replaced-kept c p k)

    starting-node-alike : starting_node_of_class_hierarchy v (r c) ≡ r (starting_node_of_class_hierarchy u c)
    unfolding starting_node_of_class_hierarchy
    starting-node-alike =
        ap (class_hierarchy_from v) (replaced-alike c p k) ∙ class-hierarchy-alike (replaced u c) (replaced-below legal c p) (replaced-kept c p k)

    namespace-depth-alike : namespace_depth_for_class_hierarchy v (r c) ≡ namespace_depth_for_class_hierarchy u c
    unfolding namespace_depth_for_class_hierarchy
    namespace-depth-alike =
        let m = starting_node_of_class_hierarchy u c in
        let q = starting-node-below legal c p in
        let l = starting-node-kept in
        rw (starting-node-alike, skip-alike m q l, namespace_depth_for_class_hierarchy)
        (looks.depths (skip_relocates u m) (skip_below legal m q) (skip-kept m q l))

  class-depth-alike : (c : ℕ) → 0 < c → c < n → keep c ≡ true → class_depth v (r c) ≡ class_depth u c
  unfolding class_depth
  class-depth-alike c h p k =
      rw (authored-alike c h p k, looks.origins c h p k, namespace-depth-alike (u.origin c) (origin-below legal c h p) (looks.origin-kept c h p k))

  nested-under-alike : (x y : ℕ) → x < n → keep x ≡ true → keep y ≡ true → is_nested_under v (r x) (r y) ≡ is_nested_under u x y
  unfolding is_nested_under
  nested-under-alike x y p k l =
      rw (follow-alike renumbers {stop = λ m. eqb m y} (record { stops = λ m h i j. looks.same_number m y j l }) outward-steps x p k)
      (looks.same_number _ y (follow-kept outward-steps (λ m. eqb m y) x p k) l)

  nested-alike : (x y : ℕ) → x < n → y < n → keep x ≡ true → keep y ≡ true → origins_are_nested v (r x) (r y) ≡ origins_are_nested u x y
  unfolding origins_are_nested
  nested-alike x y p q k l = rw (nested-under-alike x y p k l, nested-under-alike y x q l k)

  -- ---- The lines, of two kept nodes

  module _ (a b : ℕ) (ha : 0 < a) (hb : 0 < b) (p : a < n) (q : b < n) (k : keep a ≡ true) (l : keep b ≡ true) where
    implied-over-alike : implied_over v (r a) (r b) ≡ implied_over u a b
    implied-over-alike = ap₂ having (implied-alike a ha p k) (implied-alike b hb q l)

    same-origin-lines-alike : same_origin_lines v (r a) (r b) ≡ same_origin_lines u a b
    unfolding same_origin_lines
    same-origin-lines-alike =
        rw (
          authored-alike a ha p k,
          authored-alike b hb q l,
          looks.siblings a p k,
          looks.siblings b q l,
          smaller-alike a b k l,
          implied-over-alike,
        )

    local-line-alike : local_line v (r a) (r b) ≡ local_line u a b
    unfolding local_line
    local-line-alike =
        rw (authored-alike a ha p k, authored-alike b hb q l, looks.local-stacks a p k, looks.local-stacks b q l, implied-over-alike)

    depth-line-alike : depth_line v (r a) (r b) ≡ depth_line u a b
    unfolding depth_line
    depth-line-alike =
        rw (
          origin-root-alike a p k,
          origin-root-alike b q l,
          nested-alike (origin_root_node u a) (origin_root_node u b) (origin-root-below legal a p) (origin-root-below legal b q)
              (origin-root-kept a p k) (origin-root-kept b q l),
          looks.depths a p k,
          looks.depths b q l,
        )

    -- `nodes` is asked of the two origins, and of the two R where the origins differ
    module _ (nodes nodes' : ℕ → ℕ → Ordering)
        (origins : nodes' (r (u.origin a)) (r (u.origin b)) ≡ nodes (u.origin a) (u.origin b))
        (roots : (u.origin a ≡ u.origin b → ⊥)
        → nodes' (r (origin_root_node u a)) (r (origin_root_node u b)) ≡ nodes (origin_root_node u a) (origin_root_node u b)) where
      origins-alike : nodes' (v.origin (r a)) (v.origin (r b)) ≡ nodes (u.origin a) (u.origin b)
      origins-alike = rw (looks.origins a ha p k, looks.origins b hb q l) origins

      same-root-lines-alike : same_root_lines v nodes' (r a) (r b) ≡ same_root_lines u nodes a b
      unfolding same_root_lines
      same-root-lines-alike =
          rw (
            class-depth-alike a ha p k,
            class-depth-alike b hb q l,
            origin-hops-alike a p k,
            origin-hops-alike b q l,
            local-line-alike,
            origins-alike,
            smaller-alike a b k l,
          )

      same-origin-alike : eqb (v.origin (r a)) (v.origin (r b)) ≡ eqb (u.origin a) (u.origin b)
      same-origin-alike =
          rw (looks.origins a ha p k, looks.origins b hb q l)
          (looks.same_number (u.origin a) (u.origin b) (looks.origin-kept a ha p k) (looks.origin-kept b hb q l))

      origin-lines-alike : origin_lines v nodes' (r a) (r b) ≡ origin_lines u nodes a b
      unfolding origin_lines
      origin-lines-alike = go (eqb (u.origin a) (u.origin b)) refl
        where
          go : (t : Bool) → eqb (u.origin a) (u.origin b) ≡ t → origin_lines v nodes' (r a) (r b) ≡ origin_lines u nodes a b
          go true e = rw (same-origin-alike ∙ e, e, origin_lines) same-origin-lines-alike
          go false e =
              rw (
                same-origin-alike ∙ e,
                e,
                origin-root-alike a p k,
                origin-root-alike b q l,
                looks.same_number (origin_root_node u a) (origin_root_node u b) (origin-root-kept a p k) (origin-root-kept b q l),
                roots (eqb-false (u.origin a) (u.origin b) e),
                same-root-lines-alike,
                smaller-alike a b k l,
                origin_lines,
              )

      specializes-lines-alike : specializes_lines v nodes' (r a) (r b) ≡ specializes_lines u nodes a b
      unfolding specializes_lines
      specializes-lines-alike = rw (depth-line-alike, origin-lines-alike)

      plain-lines-alike : plain_lines v nodes' (r a) (r b) ≡ plain_lines u nodes a b
      unfolding plain_lines
      plain-lines-alike =
          rw (looks.depths a p k, looks.depths b q l, origins-alike, looks.siblings a p k, looks.siblings b q l, smaller-alike a b k l)

      pub sibling-lines-alike : sibling_lines v nodes' (r a) (r b) ≡ sibling_lines u nodes a b
      unfolding sibling_lines
      sibling-lines-alike =
          rw (
            looks.ranks a p k,
            looks.ranks b q l,
            looks.specials a p k,
            looks.specials b q l,
            specializes-lines-alike,
            plain-lines-alike,
          )

  -- ---- Nodes, by their chains

  chain-down : (k top m : ℕ) → m < k → m ≤ top → m < n → keep m ≡ true
      → (xs : List ℕ) × (chain u.parent m ≡ 0 ∷ xs) × Down keep u.parent top 0 xs m
  unfolding Down
  chain-down zero top m h t p q = absurd (omega arith)
  chain-down (suc k) top zero h t p q = ([], refl, refl)
  chain-down (suc k) top (suc m) h t p q =
      let d = legal.parent-lower (suc m) (omega arith) p in
      let i = chain-down k top (u.parent (suc m)) (omega arith) (omega arith) (omega arith) (looks.parent-kept (suc m) (omega arith) p q) in (
        i.0 ++ (suc m ∷ []),
        rw (chain-step legal.parent-lower (suc m) (omega arith) p, i.1),
        down-last keep u.parent top 0 i.0 (suc m) i.2 (record { positive = omega arith; within = t; kept = q; under = refl }),
      )

  -- two comparisons of siblings that agree wherever the chains of x and y may part: on their
  -- members that are children of one node
  module _ (s s' : ℕ → ℕ → Ordering) (x y : ℕ)
      (agree : (p c d : ℕ) → Child keep u.parent x p c → Child keep u.parent y p d → s' (r c) (r d) ≡ s c d) where
    parting-alike : (p i j : ℕ) (cs ds : List ℕ) → Down keep u.parent x p cs i → Down keep u.parent y p ds j
        → parting s' (map r cs) (map r ds) ≡ parting s cs ds
    unfolding Down
    parting-alike p i j [] [] left right = refl
    parting-alike p i j [] (d ∷ ds) left right = refl
    parting-alike p i j (c ∷ cs) [] left right = refl
    parting-alike p i j (c ∷ cs) (d ∷ ds) left right =
        rw (looks.same_number c d left.0.kept right.0.kept, agree p c d left.0 right.0)
        (go (eqb c d) refl (parting-alike c i j cs ds left.1))
      where
        go : (t : Bool) → eqb c d ≡ t → (Down keep u.parent y c ds j → parting s' (map r cs) (map r ds) ≡ parting s cs ds)
            → cond t (parting s' (map r cs) (map r ds)) (s c d) ≡ cond t (parting s cs ds) (s c d)
        go true e ih = ih (rw (eqb-true c d e) right.1)
        go false e ih = refl

    nodes-by-alike : x < n → y < n → keep x ≡ true → keep y ≡ true → nodes_by v.parent s' (r x) (r y) ≡ nodes_by u.parent s x y
    unfolding nodes_by
    nodes-by-alike p q k l =
        let i = chain-down (suc x) x x (omega arith) (omega arith) p k in
        let j = chain-down (suc y) y y (omega arith) (omega arith) q l in
        rw (chain-alike renumbers parent-steps x p k, chain-alike renumbers parent-steps y q l, i.1, j.1, eq-eqb (r 0) (r 0) refl)
        (parting-alike 0 x y i.0 j.0 i.2 j.2)

  -- ---- Siblings: what their lines ask is lower than they are

  sums-rise : (a b c d : ℕ) → keep a ≡ true → keep b ≡ true → keep c ≡ true → keep d ≡ true → c ≤ a → d ≤ b → c + d < a + b
      → r c + r d < r a + r b
  sums-rise a b c d k l m o x y h = go (dec_lt c a)
    where
      go : Dec (c < a) → r c + r d < r a + r b
      go (yes z) = omega (arith, rises c a m k z, never-falls d b o l y)
      go (no z) = omega (arith, never-falls c a m k x, rises d b o l (omega arith))

  module _ (a b : ℕ) (ha : 0 < a) (hb : 0 < b) (p : a < n) (q : b < n) (k : keep a ≡ true) (l : keep b ≡ true) where
    -- where the chains of the two R part is lower than a and b: as siblings a and b would have one
    -- parent, and as authored ones one origin
    roots-fall : (u.origin a ≡ u.origin b → ⊥) → (t c d : ℕ) → Child keep u.parent (origin_root_node u a) t c
        → Child keep u.parent (origin_root_node u b) t d → c + d < a + b
    roots-fall differ t c d x y = go (is_authored u a) refl (is_authored u b) refl (dec_lt (c + d) (a + b))
      where
        la : origin_root_node u a ≤ a
        la = origin-root-le legal a p

        lb : origin_root_node u b ≤ b
        lb = origin-root-le legal b q

        go : (i : Bool) → is_authored u a ≡ i → (j : Bool) → is_authored u b ≡ j → Dec (c + d < a + b) → c + d < a + b
        go false e j f z = omega (arith, origin-root-lower legal a ha p e, lb)
        go true e false f z = omega (arith, la, origin-root-lower legal b hb q f)
        go true e true f (yes z) = z
        go true e true f (no z) =
            let i : c ≡ a = omega (arith, la, lb) in
            let j : d ≡ b = omega (arith, la, lb) in
            absurd (differ (cc (eqb-true (u.origin a) (u.parent a) e, eqb-true (u.origin b) (u.parent b) f)))

    -- so the lines are the same if two comparisons of siblings agree on lower pairs; of node 0,
    -- which has no sibling, nothing is asked
    pub lower-pairs-alike : (s s' : ℕ → ℕ → Ordering)
        → ((c d : ℕ) → 0 < c → 0 < d → c < n → d < n → keep c ≡ true → keep d ≡ true → c + d < a + b → r c + r d < r a + r b
        → s' (r c) (r d) ≡ s c d)
        → sibling_lines v (nodes_by v.parent s') (r a) (r b) ≡ sibling_lines u (nodes_by u.parent s) a b
    lower-pairs-alike s s' agree =
        let oa = legal.origin-lower a ha p in
        let ob = legal.origin-lower b hb q in
        sibling-lines-alike a b ha hb p q k l (nodes_by u.parent s) (nodes_by v.parent s')
        (asked (u.origin a) (u.origin b) (omega arith) (omega arith) (looks.origin-kept a ha p k) (looks.origin-kept b hb q l)
        (λ t c d x y. omega arith))
        (λ differ. asked (origin_root_node u a) (origin_root_node u b) (origin-root-le legal a p) (origin-root-le legal b q)
        (origin-root-kept a p k) (origin-root-kept b q l) (roots-fall differ))
      where
        asked : (x y : ℕ) → x ≤ a → y ≤ b → keep x ≡ true → keep y ≡ true
            → ((t c d : ℕ) → Child keep u.parent x t c → Child keep u.parent y t d → c + d < a + b)
            → nodes_by v.parent s' (r x) (r y) ≡ nodes_by u.parent s x y
        asked x y la lb kx ky falls =
            nodes-by-alike s s' x y
            (λ t c d i j. let h = falls t c d i j in
            agree c d i.positive j.positive (omega arith) (omega arith) i.kept j.kept h
            (sums-rise a b c d k l i.kept j.kept (omega arith) (omega arith) h))
            (omega arith) (omega arith) kx ky

  -- with any fuel above the sum of the two numbers, on either side
  pub siblings-up-to-alike : (f g a b : ℕ) → a < n → b < n → keep a ≡ true → keep b ≡ true → a + b < f → r a + r b < g
      → siblings_up_to v g (r a) (r b) ≡ siblings_up_to u f a b
  siblings-up-to-alike zero g a b p q k l x y = absurd (omega arith)
  siblings-up-to-alike (suc f) zero a b p q k l x y = absurd (omega arith)
  siblings-up-to-alike (suc f) (suc g) a b p q k l x y =
      rw (positive-alike a k, positive-alike b l, smaller-alike a b k l) (go (ltb 0 a) refl (ltb 0 b) refl (λ c d. siblings-up-to-alike f g c d))
    where
      go : (i : Bool) → ltb 0 a ≡ i → (j : Bool) → ltb 0 b ≡ j
          → ((c d : ℕ) → c < n → d < n → keep c ≡ true → keep d ≡ true → c + d < f → r c + r d < g
          → siblings_up_to v g (r c) (r d) ≡ siblings_up_to u f c d)
          → cond (i && j) (sibling_lines v (nodes_by v.parent (siblings_up_to v g)) (r a) (r b)) (smaller a b)
          ≡ cond (i && j) (sibling_lines u (nodes_by u.parent (siblings_up_to u f)) a b) (smaller a b)
      go true e true e' ih =
          lower-pairs-alike a b (ltb-true 0 a e) (ltb-true 0 b e') p q k l (siblings_up_to u f) (siblings_up_to v g)
          (λ c d _ _ i j m o h h'. ih c d i j m o (omega arith) (omega arith))
      go true e false e' ih = refl
      go false e j e' ih = refl

  pub siblings-alike : (a b : ℕ) → a < n → b < n → keep a ≡ true → keep b ≡ true
      → compare_sibling_node_strength v (r a) (r b) ≡ compare_sibling_node_strength u a b
  unfolding compare_sibling_node_strength
  siblings-alike a b p q k l = siblings-up-to-alike (suc (a + b)) (suc (r a + r b)) a b p q k l (omega arith) (omega arith)

  pub nodes-alike : (a b : ℕ) → a < n → b < n → keep a ≡ true → keep b ≡ true → compare_node_strength v (r a) (r b) ≡ compare_node_strength u a b
  unfolding compare_node_strength
  nodes-alike a b p q k l =
      nodes-by-alike (compare_sibling_node_strength u) (compare_sibling_node_strength v) a b
      (λ t c d x y. siblings-alike c d (omega arith) (omega arith) x.kept y.kept) p q k l
