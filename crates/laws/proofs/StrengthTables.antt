-- What document 01's lines read of a node, from what they read of lower nodes: the recurrences that
-- a table is filled by. Hops are no more than the node's number; a class hierarchy starts where
-- that of the node above starts, while the depth below introduction stays. Assumes nothing.
use mathlib.Core.Path.{◌≡◌, refl, sym, ◌∙◌}
use mathlib.Core.Bool.{Bool, true, false, ◌||◌, cond, and-false}
use Prim.Native.Nat.{ℕ, zero, suc, ◌≤◌, ◌<◌}
use native.Mathlib.Omega.{arith}
use lib.Dec.{eqb}
use borrow.Author.Tests.{eq-eqb, ne_eqb, eqb-true, eqb-false}
use Rattle.model.specs.Strength.{View, follow_up_to, follow, steps_up_to, is_authored, origin_hops, is_class_based_arc, class_hierarchy_from}
use Rattle.laws.proofs.Views.{LegalView}
use Rattle.laws.proofs.StrengthWalks.{leaves_class, class_up, class-stop, class-step}

-- ---- Hops

steps-le : (stop : ℕ → Bool) (next : ℕ → ℕ) (k m : ℕ) → steps_up_to stop next k m ≤ k
steps-le stop next zero m = omega arith
steps-le stop next (suc k) m = go (eqb m 0 || stop m) (steps-le stop next k (next m))
  where
    go : (b : Bool) → steps_up_to stop next k (next m) ≤ k → cond b 0 (suc (steps_up_to stop next k (next m))) ≤ suc k
    go true h = omega arith
    go false h = omega arith

pub origin-hops-le : (u : View) (m : ℕ) → origin_hops u m ≤ m
unfolding origin_hops
origin-hops-le u m = steps-le (is_authored u) u.origin m m

-- ---- Class hierarchies

-- walks whose stops agree but at node 0 come to one node
follow-stops : {stop other : ℕ → Bool} (next : ℕ → ℕ) → ((c : ℕ) → 0 < c → stop c ≡ other c) → (k m : ℕ)
    → follow_up_to stop next k m ≡ follow_up_to other next k m
follow-stops next same zero m = refl
follow-stops next same (suc k) zero = refl
follow-stops next same (suc k) (suc m) = rw (same (suc m) (omega arith), follow-stops next same k (next (suc m)))

pub class-from-other : (u : View) (m : ℕ) → is_class_based_arc (u.arc m) ≡ false → class_hierarchy_from u m ≡ m
class-from-other u m e = class-stop u m m (rw e)

-- `below` is the depth below introduction
module _ {n : ℕ} {u : View} (legal : LegalView n u) (below : ℕ → ℕ)
    (reads : (a b : ℕ) → 0 < a → 0 < b → u.same_depth_below a b ≡ eqb (below a) (below b))
    (m : ℕ) (h : 0 < m) (p : m < n) (based : is_class_based_arc (u.arc m) ≡ true) where
  leaves : class_hierarchy_from u m ≡ follow (leaves_class u m) (class_up u) (class_up u m)
  leaves = class-step legal m h p m (rw (based, reads m m h h, eq-eqb (below m) (below m) refl))

  -- from where the hierarchy of the node above starts, if that has the same depth
  pub class-from-same : below (class_up u m) ≡ below m → class_hierarchy_from u m ≡ class_hierarchy_from u (class_up u m)
  class-from-same e = leaves ∙ go (class_up u m) e (eqb (class_up u m) 0) refl
    where
      go : (q : ℕ) → below q ≡ below m → (b : Bool) → eqb q 0 ≡ b → follow (leaves_class u m) (class_up u) q ≡ follow (leaves_class u q) (class_up u) q
      go q e true z = rw (eqb-true q 0 z)
      go q e false z =
          let some = eqb-false q 0 z in
          follow-stops (class_up u) (λ c k. rw (reads m c h k, reads q c (omega arith) k, e)) q q

  -- else from the node above
  pub class-from-apart : (below (class_up u m) ≡ below m → ⊥) → class_hierarchy_from u m ≡ class_up u m
  class-from-apart d = leaves ∙ go (class_up u m) d (eqb (class_up u m) 0) refl
    where
      go : (q : ℕ) → (below q ≡ below m → ⊥) → (b : Bool) → eqb q 0 ≡ b → follow (leaves_class u m) (class_up u) q ≡ q
      go q d true z = rw (eqb-true q 0 z)
      go q d false z =
          let some = eqb-false q 0 z in
          class-stop u m q (rw (reads m q h (omega arith), ne_eqb (below m) (below q) (λ e. d (sym e)), and-false))
