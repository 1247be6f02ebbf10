-- `is_ancestor_of` step by step up parents: false at node 0 and at the local root, true at the node
-- itself, else what the parent says; and the loop that goes so, from a node of an arena's graph
-- (`Ancestry`). Assumes nothing.
use mathlib.Core.Path.{◌≡◌, refl, sym, ap, ◌∙◌}
use mathlib.Core.Bool.{Bool, true, false, not, ◌||◌, ◌&&◌, or-true, and-false}
use mathlib.Core.List.{List}
use Prim.Native.Nat.{ℕ, zero, suc, ◌<◌}
use native.Mathlib.Omega.{arith}
use lib.Dec.{eqb, ltb}
use borrow.Author.Tests.{eq-eqb, ne_eqb, lt-ltb, eqb-true}
use Rattle.model.specs.Strength.{View}
use Rattle.model.specs.Hierarchy.{is_ancestor_of}
use Rattle.laws.proofs.Views.{LegalView}
use Rattle.laws.proofs.FollowLaws.{follow-step, follow-stop}
use Rattle.view.specs.View.{view_in, ValidNodeAndRoot}
use Rattle.view.proofs.ViewLaws.{legal, standing-lower}
use Rattle.view.proofs.LocalRootLaws.{local-root-read}
use Rattle.view.proofs.WalkLoops.{positive}

-- where the walk stops
abbrev halts_for : View → ℕ → ℕ → Bool
halts_for u x c = u.local_root c || eqb c x

module _ (u : View) where
  pub ancestor-zero : (x : ℕ) → is_ancestor_of u x 0 ≡ false
  unfolding is_ancestor_of
  ancestor-zero zero = refl
  ancestor-zero (suc x) = rw (ne_eqb 0 (suc x) (λ e. omega arith), and-false, and-false)

  pub ancestor-root : (x m : ℕ) → u.local_root m ≡ true → is_ancestor_of u x m ≡ false
  unfolding is_ancestor_of
  ancestor-root x m e = rw (follow-stop (halts_for u x) u.parent m (rw e)) (go (eqb m x) refl)
    where
      go : (t : Bool) → eqb m x ≡ t → (ltb 0 x && (not (u.local_root x) && t)) ≡ false
      go true q = rw (← eqb-true m x q, e, and-false)
      go false q = rw (and-false, and-false)

  pub ancestor-self : (x : ℕ) → 0 < x → u.local_root x ≡ false → is_ancestor_of u x x ≡ true
  unfolding is_ancestor_of
  ancestor-self x h e =
      let s = eq-eqb x x refl in
      rw (lt-ltb 0 x h, follow-stop (halts_for u x) u.parent x (rw (s, or-true)), s, e)

pub ancestor-step : {n : ℕ} {u : View} → LegalView n u → (x m : ℕ) → 0 < m → m < n → u.local_root m ≡ false → (m ≡ x → ⊥)
    → is_ancestor_of u x m ≡ is_ancestor_of u x (u.parent m)
unfolding is_ancestor_of
ancestor-step {n} {u} legal x m h p e d = rw (follow-step legal.parent-lower (halts_for u x) m h p (rw (e, ne_eqb m x d)))

-- ---- The loop

-- the walk from y has come to m, and met neither x nor the local root before
pub record Ancestry (bs : List ℕ) (root x y m : ℕ) : Type 0 where
  pub standing : ValidNodeAndRoot bs root m
  pub ancestor : is_ancestor_of (view_in bs) x m ≡ is_ancestor_of (view_in bs) x y

pub ancestry-start : (bs : List ℕ) (root x y : ℕ) → ValidNodeAndRoot bs root y → Ancestry bs root x y y
ancestry-start bs root x y s = record { standing = s; ancestor = refl }

module _ {bs : List ℕ} {root x y m : ℕ} (w : Ancestry bs root x y m) where
  pub ancestry-zero : m ≡ 0 → false ≡ is_ancestor_of (view_in bs) x y
  ancestry-zero z = sym (ancestor-zero (view_in bs) x) ∙ ap (is_ancestor_of (view_in bs) x) (sym z) ∙ w.ancestor

  module _ (some : m ≡ 0 → ⊥) where
    pub ancestry-root : m ≡ root → false ≡ is_ancestor_of (view_in bs) x y
    ancestry-root e =
        let here : (view_in bs).local_root m ≡ true =
        local-root-read bs root m w.standing ∙ rw (ne_eqb root 0 (λ z. some (e ∙ z)), eq-eqb m root e) in
        sym (ancestor-root (view_in bs) x m here) ∙ w.ancestor

    module _ (d : m ≡ root → ⊥) where
      no-root : (view_in bs).local_root m ≡ false
      no-root = local-root-read bs root m w.standing ∙ rw (ne_eqb m root d, and-false)

      pub ancestry-met : m ≡ x → true ≡ is_ancestor_of (view_in bs) x y
      ancestry-met e = sym (rw e at (ancestor-self (view_in bs) m (positive m some) no-root)) ∙ rw e at w.ancestor

      module _ {parent : ℕ} (p : parent ≡ (view_in bs).parent m) where
        pub ancestry-falls : parent < m
        ancestry-falls = rw p ((legal bs w.standing.readable.opened).parent-lower m (positive m some) w.standing.readable.below)

        pub ancestry-step : (m ≡ x → ⊥) → Ancestry bs root x y parent
        ancestry-step e =
            let graph = legal bs w.standing.readable.opened in
            let falls = ancestry-falls in
            record {
              standing = standing-lower bs root m parent w.standing (omega arith);
              ancestor = rw p (sym (ancestor-step graph x m (positive m some) w.standing.readable.below no-root e) ∙ w.ancestor);
            }
