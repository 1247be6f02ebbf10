-- The specializes list: the depth line from the tests that decide it; the list settled by a line
-- that differs or handed on where a line is passed; and both R asked, whose sum is lower. Assumes
-- nothing.
use mathlib.Core.Path.{◌≡◌, refl, sym, ◌∙◌}
use mathlib.Core.Bool.{Bool, true, false, cond}
use mathlib.Core.List.{List}
use Prim.Native.Nat.{ℕ, ◌+◌, ◌<◌}
use native.Mathlib.Omega.{arith}
use borrow.Author.Tests.{eq-eqb, ne_eqb, eqb-true}
use Rattle.std.specs.declared.cmp.Ordering.{Ordering}
use Rattle.std.specs.declared.cmp.Ordering.TheVariants.{Less, Equal, Greater}
use Rattle.model.specs.Strength.{View, smaller, is_authored, origin_root_node, origins_are_nested, same_origin_lines, same_root_lines, origin_lines, depth_line, specializes_lines}
use Rattle.laws.proofs.StrengthWalks.{origin-root-le, origin-root-lower}
use Rattle.view.specs.View.{view_in, ValidNodeAndRoot}
use Rattle.view.proofs.ViewLaws.{legal, standing-lower}
use Rattle.view.specs.declared.origins.OriginRoot.{OriginRoot}
use Rattle.view.specs.Walks.{RootOf}
use Rattle.model.specs.declared.Verdict.{Verdict}
use Rattle.model.specs.declared.Verdict.TheVariants.{Settled, Ask}
use Rattle.strength.specs.Verdicts.{Pair, DecidedBy}
use Rattle.laws.proofs.SmallerLaws.{smaller-eq}
use Rattle.strength.proofs.VerdictLaws.{links-lower}

-- ---- "Unless R(a), R(b) are nested: larger depth"

cond_same : (t : Bool) (o : Ordering) → cond t o o ≡ o
cond_same true o = refl
cond_same false o = refl

module _ (u : View) (a b : ℕ) where
  pub one-depth : u.depth a ≡ u.depth b → depth_line u a b ≡ Equal
  unfolding depth_line
  one-depth e = rw (smaller-eq (u.depth b) (u.depth a) (sym e), depth_line) (cond_same (origins_are_nested u (origin_root_node u a) (origin_root_node u b)) Equal)

  module _ (ra rb : OriginRoot) (left : RootOf u a ra) (right : RootOf u b rb) where
    pub roots-nested : origins_are_nested u ra.node rb.node ≡ true → depth_line u a b ≡ Equal
    unfolding depth_line
    roots-nested e = rw (← left.node, ← right.node, e, depth_line)

    pub not-nested : origins_are_nested u ra.node rb.node ≡ false → depth_line u a b ≡ smaller (u.depth b) (u.depth a)
    unfolding depth_line
    not-nested e = rw (← left.node, ← right.node, e, depth_line)

-- ---- Settled, or handed on

module _ (u : View) (bs : List ℕ) (a b : ℕ) where
  -- the depth line of the specializes list
  pub depth-less : depth_line u a b ≡ Less → DecidedBy (specializes_lines u) bs a b (Settled Less)
  unfolding specializes_lines
  depth-less e = record { agrees = λ nodes. rw (e, specializes_lines); asks = tt }

  pub depth-greater : depth_line u a b ≡ Greater → DecidedBy (specializes_lines u) bs a b (Settled Greater)
  unfolding specializes_lines
  depth-greater e = record { agrees = λ nodes. rw (e, specializes_lines); asks = tt }

  pub depth-passed : {v : Verdict} → depth_line u a b ≡ Equal → DecidedBy (origin_lines u) bs a b v → DecidedBy (specializes_lines u) bs a b v
  unfolding specializes_lines
  depth-passed e w = record { agrees = λ nodes. rw (e, specializes_lines) (w.agrees nodes); asks = w.asks }

  -- "2. Same origin"
  pub one-origin : {o : Ordering} → u.origin a ≡ u.origin b → o ≡ same_origin_lines u a b → DecidedBy (origin_lines u) bs a b (Settled o)
  unfolding origin_lines
  one-origin same e = record { agrees = λ nodes. rw (eq-eqb (u.origin a) (u.origin b) same, origin_lines) e; asks = tt }

  -- R do not differ
  pub one-root : {v : Verdict} → (u.origin a ≡ u.origin b → ⊥) → origin_root_node u a ≡ origin_root_node u b → DecidedBy (same_root_lines u) bs a b v
      → DecidedBy (origin_lines u) bs a b v
  unfolding origin_lines
  one-root differ same w = record {
    agrees = λ nodes. rw (ne_eqb (u.origin a) (u.origin b) differ, eq-eqb (origin_root_node u a) (origin_root_node u b) same, origin_lines) (w.agrees nodes);
    asks = w.asks;
  }

-- ---- Two lower nodes

pub root-standing : {bs : List ℕ} {root n : ℕ} (r : OriginRoot) → ValidNodeAndRoot bs root n → RootOf (view_in bs) n r → ValidNodeAndRoot bs root r.node
root-standing {bs} {root} {n} r s found =
    standing-lower bs root n r.node s (omega (arith, found.node, origin-root-le (legal bs s.readable.opened) n s.readable.below))

module _ {bs : List ℕ} {root a b : ℕ} (pair : Pair bs root a b) where
  -- of two siblings with different origins one is not authored, so the sum of their R is lower
  roots-fall : ((view_in bs).origin a ≡ (view_in bs).origin b → ⊥) → origin_root_node (view_in bs) a + origin_root_node (view_in bs) b < a + b
  roots-fall differ = go (is_authored (view_in bs) a) refl
    where
      go : (t : Bool) → is_authored (view_in bs) a ≡ t → origin_root_node (view_in bs) a + origin_root_node (view_in bs) b < a + b
      go false e =
          omega (arith, origin-root-lower (links-lower pair) a pair.left-above pair.left.readable.below e, origin-root-le (links-lower pair) b pair.right.readable.below)
      go true e =
          let other = ne_eqb ((view_in bs).origin b) ((view_in bs).parent b) (λ q. differ (eqb-true ((view_in bs).origin a) ((view_in bs).parent a) e ∙ pair.parents ∙ sym q)) in
          omega (arith, origin-root-le (links-lower pair) a pair.left.readable.below, origin-root-lower (links-lower pair) b pair.right-above pair.right.readable.below other)

  -- "3. R differ: node strength of them."
  pub roots-differ : {o : Ordering} (ra rb : OriginRoot) → RootOf (view_in bs) a ra → RootOf (view_in bs) b rb → ((view_in bs).origin a ≡ (view_in bs).origin b → ⊥)
      → (ra.node ≡ rb.node → ⊥) → o ≡ smaller a b → DecidedBy (origin_lines (view_in bs)) bs a b (Ask ra.node rb.node o)
  unfolding origin_lines
  roots-differ ra rb left right differ apart e = record {
    agrees = λ nodes. rw (ne_eqb ((view_in bs).origin a) ((view_in bs).origin b) differ, ← left.node, ← right.node, ne_eqb ra.node rb.node apart, e, origin_lines);
    asks = (
      (root-standing ra pair.left left).readable,
      (root-standing rb pair.right right).readable,
      omega (arith, left.node, right.node, roots-fall differ),
    );
  }
