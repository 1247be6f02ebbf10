-- Neighbours suffice among copies: children of one node and one arc, all HAS_SPECIALIZES, whose
-- depth does not count. Document 01 compares two of them by R, or by class depth, hops, the local
-- line and origins, or by implied and node number; which of these, depends on the two, so that Less
-- does not pass on from neighbour to neighbour. All these lines in one list do pass on
-- (`copy_lines`, `follows-trans`), and they say what document 01 says as long as they tie only for
-- one R, then one stack, then one origin (`Follows`, `follows-less`). So such a list is in order by
-- document 01's lines, the strength of nodes being that of places, where each child so follows the
-- one before it and the authored ones rise (`copies-sorted`). Assumes nothing.
use mathlib.Core.Path.{◌≡◌, refl, sym, ap, ◌∙◌}
use mathlib.Core.Bool.{Bool, true, false, ◌||◌, ◌&&◌, cond}
use mathlib.Core.List.{List}
use Prim.Native.Nat.{ℕ, suc}
use native.Mathlib.Omega.{arith}
use lib.Dec.{eqb}
use borrow.Author.Tests.{eqb-true, eqb-false}
use Rattle.std.specs.declared.cmp.Ordering.{Ordering}
use Rattle.std.specs.declared.cmp.Ordering.TheVariants.{Less, Equal, Greater}
use Rattle.model.specs.Lists.{All, Pairs}
use Rattle.model.specs.Strength.{View, first, smaller, larger, having, is_authored, is_implied, origin_root_node, origin_hops, origins_are_nested, class_depth, implied_over, same_origin_lines, local_line, same_root_lines, origin_lines, depth_line, specializes_lines, sibling_lines}
use Rattle.model.specs.Order.{is_less, Sorted}
use Rattle.model.specs.Places.{by_place}
use Rattle.laws.proofs.ListLaws.{all-pairs, pairs-imp, pairs-both}
use Rattle.laws.proofs.Views.{LegalView}
use Rattle.laws.proofs.Trees.{Child}
use Rattle.laws.proofs.SmallerLaws.{smaller-lt, smaller-eq, smaller-gt}
use Rattle.laws.proofs.StrengthWalks.{nested-self, origin-hops-authored, origin-root-step, origin-hops-step}
use Rattle.laws.proofs.OrderKeys.{NotGreater, Level, level-smaller, level-larger, level-having, level-first, Neighbours, neighbours-pairs}

-- ---- The lines

-- R by its place
abbrev pub root_line : View → (ℕ → ℕ) → ℕ → ℕ → Ordering
root_line u place a b = by_place place (origin_root_node u a) (origin_root_node u b)

-- then smaller class depth, and more hops
unfoldable pub group_lines : View → (ℕ → ℕ) → ℕ → ℕ → Ordering
group_lines u place a b =
    first (root_line u place a b) (first (smaller (class_depth u a) (class_depth u b)) (larger (origin_hops u a) (origin_hops u b)))

-- implied over not, in the local root's stack
abbrev pub stack_line : View → ℕ → ℕ → Ordering
stack_line u a b = having (u.local_stack a && is_implied u a) (u.local_stack b && is_implied u b)

-- then that, and the origins by their places
unfoldable pub local_lines : View → (ℕ → ℕ) → ℕ → ℕ → Ordering
local_lines u place a b = first (group_lines u place a b) (first (stack_line u a b) (by_place place (u.origin a) (u.origin b)))

-- then implied over not, and the node number
unfoldable pub copy_lines : View → (ℕ → ℕ) → ℕ → ℕ → Ordering
copy_lines u place a b = first (local_lines u place a b) (first (implied_over u a b) (smaller a b))

-- b comes after a by these lines, which tie only for one R, then for one stack, then for one origin
pub record Follows (u : View) (place : ℕ → ℕ) (a b : ℕ) : Type 0 where
  pub less : copy_lines u place a b ≡ Less
  pub root : root_line u place a b ≡ Equal → origin_root_node u a ≡ origin_root_node u b
  pub local : group_lines u place a b ≡ Equal → u.local_stack a ≡ u.local_stack b
  pub origin : local_lines u place a b ≡ Equal → u.origin a ≡ u.origin b

-- ---- It is transitive

first-not-greater : (o p : Ordering) → NotGreater (first o p) → NotGreater o
first-not-greater Less p h = tt
first-not-greater Equal p h = tt
first-not-greater Greater p h = h

less-unless-equal : (o : Ordering) → NotGreater o → (o ≡ Equal → ⊥) → o ≡ Less
less-unless-equal Less h k = refl
less-unless-equal Equal h k = absurd (k refl)
less-unless-equal Greater h k = absurd h

-- what two have in common where a line ties
ties-trans : {A : Type 0} (f : ℕ → A) (s : ℕ → ℕ → Ordering) → Level s → (a b c : ℕ) → NotGreater (s a b) → NotGreater (s b c)
    → (s a b ≡ Equal → f a ≡ f b) → (s b c ≡ Equal → f b ≡ f c) → s a c ≡ Equal → f a ≡ f c
ties-trans f s level a b c p q left right e = go (s a b) (s b c) left right (sym (level a b c p q) ∙ e)
  where
    go : (o p : Ordering) → (o ≡ Equal → f a ≡ f b) → (p ≡ Equal → f b ≡ f c) → first o p ≡ Equal → f a ≡ f c
    go Less p h k e = cc
    go Equal p h k e = h refl ∙ k e
    go Greater p h k e = cc

module _ (u : View) (place : ℕ → ℕ) where
  root-level : Level (root_line u place)
  root-level = level-smaller (λ a. place (origin_root_node u a))

  group-level : Level (group_lines u place)
  unfolding group_lines
  group-level = level-first _ _ root-level (level-first _ _ (level-smaller (class_depth u)) (level-larger (origin_hops u)))

  local-level : Level (local_lines u place)
  unfolding local_lines
  local-level =
      level-first _ _ group-level
      (level-first _ _ (level-having (λ a. u.local_stack a && is_implied u a)) (level-smaller (λ a. place (u.origin a))))

  copy-level : Level (copy_lines u place)
  unfolding copy_lines
  copy-level = level-first _ _ local-level (level-first _ _ (level-having (is_implied u)) (level-smaller (λ a. a)))

  module _ {a b : ℕ} (h : Follows u place a b) where
    copy-rises : NotGreater (copy_lines u place a b)
    copy-rises = rw h.less tt

    local-rises : NotGreater (local_lines u place a b)
    unfolding copy_lines
    local-rises = first-not-greater (local_lines u place a b) _ copy-rises

    group-rises : NotGreater (group_lines u place a b)
    unfolding local_lines
    group-rises = first-not-greater (group_lines u place a b) _ local-rises

    root-rises : NotGreater (root_line u place a b)
    unfolding group_lines
    root-rises = first-not-greater (root_line u place a b) _ group-rises

  pub follows-trans : (a b c : ℕ) → Follows u place a b → Follows u place b c → Follows u place a c
  follows-trans a b c h k = record {
    less = copy-level a b c (copy-rises h) (copy-rises k) ∙ rw h.less;
    root = ties-trans (origin_root_node u) (root_line u place) root-level a b c (root-rises h) (root-rises k) h.root k.root;
    local = ties-trans u.local_stack (group_lines u place) group-level a b c (group-rises h) (group-rises k) h.local k.local;
    origin = ties-trans u.origin (local_lines u place) local-level a b c (local-rises h) (local-rises k) h.origin k.origin;
  }

-- ---- It gives document 01's lines

-- of two authored ones, the sibling number, then the node number
abbrev pub AuthoredRise : View → ℕ → ℕ → Type 0
AuthoredRise u a b = is_authored u a ≡ true → is_authored u b ≡ true → first (smaller (u.sibling a) (u.sibling b)) (smaller a b) ≡ Less

module _ {n : ℕ} {u : View} (legal : LegalView n u) {v : ℕ} (place : ℕ → ℕ) (a b : ℕ) (ha : Child n u.parent v a)
    (hb : Child n u.parent v b) where
  -- copies of one origin have one R, one class depth and as many hops
  same-group : u.origin a ≡ u.origin b → is_authored u a ≡ false → is_authored u b ≡ false → group_lines u place a b ≡ Equal
  unfolding group_lines class_depth
  same-group e s t =
      rw (
        smaller-eq (place (origin_root_node u a)) (place (origin_root_node u b)) (ap place root),
        smaller-eq (class_depth u a) (class_depth u b) depth,
        smaller-eq (origin_hops u b) (origin_hops u a) (sym hops),
      )
    where
      root : origin_root_node u a ≡ origin_root_node u b
      root = origin-root-step legal a ha.0 ha.1 s ∙ ap (origin_root_node u) e ∙ sym (origin-root-step legal b hb.0 hb.1 t)

      hops : origin_hops u a ≡ origin_hops u b
      hops = origin-hops-step legal a ha.0 ha.1 s ∙ ap (λ (x : ℕ). suc (origin_hops u x)) e ∙ sym (origin-hops-step legal b hb.0 hb.1 t)

      depth : class_depth u a ≡ class_depth u b
      depth = rw (s, t, e)

  same-origin : u.origin a ≡ u.origin b → AuthoredRise u a b → Follows u place a b → same_origin_lines u a b ≡ Less
  unfolding same_origin_lines copy_lines local_lines
  same-origin e rise h = go (is_authored u a) refl
    where
      alike : is_authored u b ≡ is_authored u a
      alike = rw (e, ha.2, hb.2)

      settle : (l i j : Bool) (o : Ordering) → first (first (having (l && i) (l && j)) Equal) (first (having i j) o) ≡ Less
          → first (having i j) o ≡ Less
      settle true true true o e = e
      settle true true false o e = refl
      settle true false true o e = cc
      settle true false false o e = e
      settle false i j o e = e

      go : (t : Bool) → is_authored u a ≡ t
          → cond (is_authored u a || is_authored u b) (first (smaller (u.sibling a) (u.sibling b)) (smaller a b))
          (first (implied_over u a b) (smaller a b)) ≡ Less
      go true t = rw t (rise t (alike ∙ t))
      go false t =
          let group = same-group e t (alike ∙ t) in
          rw (t, alike ∙ t)
          (settle (u.local_stack b) (is_implied u a) (is_implied u b) (smaller a b)
          (rw (group, h.local group, smaller-eq _ _ (ap place e)) at h.less))

  -- as many hops, and two origins: neither is authored
  neither-authored : (u.origin a ≡ u.origin b → ⊥) → larger (origin_hops u a) (origin_hops u b) ≡ Equal → is_authored u a || is_authored u b ≡ false
  neither-authored differ ties = go (is_authored u a) (is_authored u b) refl refl
    where
      go : (s t : Bool) → is_authored u a ≡ s → is_authored u b ≡ t → s || t ≡ false
      go true true s t =
          absurd (differ (eqb-true (u.origin a) (u.parent a) s ∙ ha.2 ∙ sym (eqb-true (u.origin b) (u.parent b) t ∙ hb.2)))
      go true false s t =
          let none = origin-hops-authored u a s in
          let some = origin-hops-step legal b hb.0 hb.1 t in
          let less = smaller-gt (origin_hops u b) (origin_hops u a) (omega arith) in cc
      go false true s t =
          let none = origin-hops-authored u b t in
          let some = origin-hops-step legal a ha.0 ha.1 s in
          let less = smaller-lt (origin_hops u b) (origin_hops u a) (omega arith) in cc
      go false false s t = refl

  -- the local line of two copies of one stack
  local-line : is_authored u a || is_authored u b ≡ false → u.local_stack a ≡ u.local_stack b → local_line u a b ≡ stack_line u a b
  unfolding local_line
  local-line neither same = rw (neither, same) (go (u.local_stack b))
    where
      go : (l : Bool) → cond (l && l) (implied_over u a b) Equal ≡ having (l && is_implied u a) (l && is_implied u b)
      go true = refl
      go false = refl

  same-root : (u.origin a ≡ u.origin b → ⊥) → origin_root_node u a ≡ origin_root_node u b → Follows u place a b
      → same_root_lines u (by_place place) a b ≡ Less
  unfolding same_root_lines local_lines group_lines
  same-root differ e h =
      go (smaller (class_depth u a) (class_depth u b)) (larger (origin_hops u a) (origin_hops u b)) refl refl
      (rw ties at (less-unless-equal (local_lines u place a b) (local-rises u place h) (λ q. differ (h.origin q))))
    where
      ties : root_line u place a b ≡ Equal
      ties = smaller-eq (place (origin_root_node u a)) (place (origin_root_node u b)) (ap place e)

      origins : Ordering
      origins = by_place place (u.origin a) (u.origin b)

      less-first : (o p q : Ordering) → first o p ≡ Less → first o (first p q) ≡ Less
      less-first Less p q l = refl
      less-first Equal p q l = rw l
      less-first Greater p q l = cc

      go : (o p : Ordering) → smaller (class_depth u a) (class_depth u b) ≡ o → larger (origin_hops u a) (origin_hops u b) ≡ p
          → first (first o p) (first (stack_line u a b) origins) ≡ Less
          → first o (first p (first (local_line u a b) (first origins (smaller a b)))) ≡ Less
      go Less p i j l = refl
      go Equal Less i j l = refl
      go Equal Equal i j l =
          rw (local-line (neither-authored differ j) (h.local (rw (ties, i, j))))
          (less-first (stack_line u a b) origins (smaller a b) l)
      go Equal Greater i j l = cc
      go Greater p i j l = cc

  pub follows-less : u.special a ≡ true → u.special b ≡ true → u.rank a ≡ u.rank b → depth_line u a b ≡ Equal → AuthoredRise u a b
      → Follows u place a b → sibling_lines u (by_place place) a b ≡ Less
  unfolding sibling_lines specializes_lines origin_lines
  follows-less s t ranks even rise h =
      rw (s, t, smaller-eq (u.rank a) (u.rank b) ranks, even) (by-origin (eqb (u.origin a) (u.origin b)) refl)
    where
      by_root : Bool → Ordering
      by_root t = cond t (same_root_lines u (by_place place) a b) (first (root_line u place a b) (smaller a b))

      by-root : (u.origin a ≡ u.origin b → ⊥) → (t : Bool) → eqb (origin_root_node u a) (origin_root_node u b) ≡ t → by_root t ≡ Less
      by-root differ true e = same-root differ (eqb-true (origin_root_node u a) (origin_root_node u b) e) h
      by-root differ false e =
          rw (less-unless-equal (root_line u place a b) (root-rises u place h)
          (λ q. eqb-false (origin_root_node u a) (origin_root_node u b) e (h.root q)))

      by-origin : (t : Bool) → eqb (u.origin a) (u.origin b) ≡ t
          → cond t (same_origin_lines u a b) (by_root (eqb (origin_root_node u a) (origin_root_node u b))) ≡ Less
      by-origin true e = same-origin (eqb-true (u.origin a) (u.origin b) e) rise h
      by-origin false e = by-root (eqb-false (u.origin a) (u.origin b) e) (eqb (origin_root_node u a) (origin_root_node u b)) refl

-- ---- Lists

-- two whose depth does not count
abbrev pub Even : View → ℕ → ℕ → Type 0
Even u a b = depth_line u a b ≡ Equal

-- a child of v that is HAS_SPECIALIZES, of a rank
abbrev pub Flagged : ℕ → View → ℕ → ℕ → ℕ → Type 0
Flagged n u v rank c = Child n u.parent v c × (u.special c ≡ true) × (u.rank c ≡ rank)

module _ (u : View) where
  even-depths : (a b : ℕ) → u.depth a ≡ u.depth b → Even u a b
  unfolding depth_line
  even-depths a b e = rw (smaller-eq (u.depth b) (u.depth a) (sym e)) (go (origins_are_nested u (origin_root_node u a) (origin_root_node u b)))
    where
      go : (t : Bool) → cond t Equal Equal ≡ Equal
      go true = refl
      go false = refl

  even-roots : (a b : ℕ) → origin_root_node u a ≡ origin_root_node u b → Even u a b
  unfolding depth_line origins_are_nested
  even-roots a b e = rw (e, nested-self u (origin_root_node u b))

  -- depth does not count where all have one depth, and where all have one R
  pub one-depth-even : (d : ℕ) (xs : List ℕ) → All (λ c. u.depth c ≡ d) xs → Pairs (Even u) xs
  one-depth-even d = all-pairs (λ c. u.depth c ≡ d) (Even u) (λ a b p q. even-depths a b (p ∙ sym q))

  pub one-root-even : (r : ℕ) (xs : List ℕ) → All (λ c. origin_root_node u c ≡ r) xs → Pairs (Even u) xs
  one-root-even r = all-pairs (λ c. origin_root_node u c ≡ r) (Even u) (λ a b p q. even-roots a b (p ∙ sym q))

-- children of v in order by document 01's lines, the strength of nodes being that of places
pub copies-sorted : {n : ℕ} {u : View} → LegalView n u → (v rank : ℕ) (place : ℕ → ℕ) (xs : List ℕ) → All (Flagged n u v rank) xs → Pairs (Even u) xs
    → Pairs (AuthoredRise u) xs → Neighbours (Follows u place) xs → Sorted (λ a b. is_less (sibling_lines u (by_place place) a b)) xs
copies-sorted {n} {u} legal v rank place xs flagged even rise h =
    pairs-imp (Flagged n u v rank) (λ a b. Even u a b × (AuthoredRise u a b × Follows u place a b))
    (λ a b. is_less (sibling_lines u (by_place place) a b) ≡ true)
    (λ a b ha hb k. ap is_less (follows-less legal place a b ha.0 hb.0 ha.1 hb.1 (ha.2 ∙ sym hb.2) k.0 k.1.0 k.1.1))
    xs flagged
    (pairs-both (Even u) (λ a b. AuthoredRise u a b × Follows u place a b) xs even
    (pairs-both (AuthoredRise u) (Follows u place) xs rise (neighbours-pairs (Follows u place) (follows-trans u place) xs h)))
