-- Reading from the back: the definitions at a place k, by the byte before it, as the loops go.
-- Assumes nothing.
use mathlib.Core.Path.{◌≡◌, refl, sym, ap, ◌∙◌}
use mathlib.Core.Bool.{Bool, true, false, cond, false≢true}
use mathlib.Core.List.{List}
use Prim.Native.Nat.{ℕ, zero, suc, pred, ◌-◌, ◌≤◌, ◌<◌, min, max}
use native.Mathlib.Numerals.{sub-one}
use native.Mathlib.Omega.{arith}
use borrow.Author.Tests.{ltb-true, ltb-false, le-leb, lt-leb, eqb-true, eqb-false, eq-eqb, ne_eqb}
use lib.Dec.{eqb, ltb}
use lib.ListN.{get_or}
use Rattle.model.specs.Path.{solidus, open_brace, close_brace, after_last, before_last, ends_in, name_start, before_name, parent_length, without_selections, intro_step, intro_length}
use Rattle.laws.proofs.PathLemmas.{after-last-le}

-- ---- The last place of a byte

pub after-hit : (b : ℕ) (p : List ℕ) (k : ℕ) → 0 < k → get_or p (k - 1) 0 ≡ b → after_last b p k ≡ k
after-hit b p zero h e = absurd (omega arith)
after-hit b p (suc k) h e = rw (eq-eqb (get_or p k 0) b (rw (sub-one (suc k)) at e))

pub after-miss : (b : ℕ) (p : List ℕ) (k : ℕ) → 0 < k → (get_or p (k - 1) 0 ≡ b → ⊥) → after_last b p k ≡ after_last b p (k - 1)
after-miss b p zero h d = absurd (omega arith)
after-miss b p (suc k) h d = rw (sub-one (suc k), ne_eqb (get_or p k 0) b (rw (sub-one (suc k)) at d))

-- what stands before it is the byte
after-found : (b : ℕ) (p : List ℕ) (k : ℕ) → 0 < after_last b p k → get_or p (after_last b p k - 1) 0 ≡ b
after-found b p zero h = absurd (omega arith)
after-found b p (suc k) h = go (eqb (get_or p k 0) b) refl h (after-found b p k)
  where
    go : (t : Bool) → eqb (get_or p k 0) b ≡ t → 0 < cond t (suc k) (after_last b p k)
        → (0 < after_last b p k → get_or p (after_last b p k - 1) 0 ≡ b) → get_or p (cond t (suc k) (after_last b p k) - 1) 0 ≡ b
    go true e l r = rw (sub-one (suc k)) (eqb-true (get_or p k 0) b e)
    go false e l r = r l

-- so it lies before a place that another byte stands before
after-below : (b : ℕ) (p : List ℕ) (k s : ℕ) → 0 < s → after_last b p k ≤ s → (get_or p (s - 1) 0 ≡ b → ⊥) → after_last b p k < s
after-below b p k s h l d = go (ltb (after_last b p k) s) refl
  where
    go : (t : Bool) → ltb (after_last b p k) s ≡ t → after_last b p k < s
    go true e = ltb-true _ _ e
    go false e =
        let q : after_last b p k ≡ s = omega (arith, ltb-false (after_last b p k) s e) in
        absurd (d (rw q at (after-found b p k (omega arith))))

pub ends-in-at : (b : ℕ) (p : List ℕ) (k : ℕ) → (k ≡ 0 → ⊥) → eqb (get_or p (k - 1) 0) b ≡ ends_in b p k
ends-in-at b p zero d = absurd (d refl)
ends-in-at b p (suc k) d = rw (sub-one (suc k))

-- ---- The last name

pub start-at-slash : (p : List ℕ) (k : ℕ) → 0 < k → get_or p (k - 1) 0 ≡ solidus → name_start p k ≡ k
unfolding name_start
start-at-slash p k h e = omega (arith, after-hit solidus p k h e, after-last-le p close_brace k)

pub start-at-brace : (p : List ℕ) (k : ℕ) → 0 < k → get_or p (k - 1) 0 ≡ close_brace → name_start p k ≡ k
unfolding name_start
start-at-brace p k h e = omega (arith, after-hit close_brace p k h e, after-last-le p solidus k)

pub start-before : (p : List ℕ) (k : ℕ) → 0 < k → (get_or p (k - 1) 0 ≡ solidus → ⊥) → (get_or p (k - 1) 0 ≡ close_brace → ⊥)
    → name_start p k ≡ name_start p (k - 1)
unfolding name_start
start-before p k h d e = omega (arith, after-miss solidus p k h d, after-miss close_brace p k h e)

pub start_none : (p : List ℕ) (k : ℕ) → k ≤ 0 → name_start p k ≡ k
unfolding name_start
start_none p k h = omega (arith, after-last-le p solidus k, after-last-le p close_brace k)

-- ---- What stands before the last name, which starts at s

-- a bytes up to the last slash and with it, c up to the last brace
module _ (a c s : ℕ) (e : s ≡ max a c) where
  first-start : s ≤ 1 → s ≡ max (max (pred a) c) (min a 1)
  first-start h = omega arith

  slash-start : 1 < s → c < s → s - 1 ≡ max (max (pred a) c) (min a 1)
  slash-start h l = omega arith

  bare-start : 1 < s → a < s → s ≡ max (max (pred a) c) (min a 1)
  bare-start h l = omega arith

module _ (p : List ℕ) (k s : ℕ) (e : s ≡ name_start p k) where
  pub before-first : s ≤ 1 → s ≡ before_name p k
  unfolding name_start before_name
  before-first h = first-start (after_last solidus p k) (after_last close_brace p k) s e h

  pub before-slash : 1 < s → get_or p (s - 1) 0 ≡ solidus → s - 1 ≡ before_name p k
  unfolding name_start before_name
  before-slash h f =
      slash-start (after_last solidus p k) (after_last close_brace p k) s e h
      (after-below close_brace p k s (omega arith) (omega arith) (λ g. eqb-false solidus close_brace refl (sym f ∙ g)))

  pub before-bare : 1 < s → (get_or p (s - 1) 0 ≡ solidus → ⊥) → s ≡ before_name p k
  unfolding name_start before_name
  before-bare h d =
      bare-start (after_last solidus p k) (after_last close_brace p k) s e h (after-below solidus p k s (omega arith) (omega arith) d)

-- ---- Selections

inside-skips : (p : List ℕ) (k : ℕ) → without_selections true p k ≡ without_selections false p (before_last open_brace p k)
inside-skips p zero = refl
inside-skips p (suc k) = go (eqb (get_or p k 0) open_brace) (inside-skips p k)
  where
    go : (t : Bool) → without_selections true p k ≡ without_selections false p (before_last open_brace p k)
        → cond t (without_selections false p k) (without_selections true p k)
        ≡ without_selections false p (pred (cond t (suc k) (after_last open_brace p k)))
    go true h = refl
    go false h = h

pub drops-one : (p : List ℕ) (k : ℕ) → ends_in close_brace p k ≡ true
    → without_selections false p k ≡ without_selections false p (before_last open_brace p k)
drops-one p zero e = refl
drops-one p (suc k) e =
    let d : eqb (get_or p k 0) open_brace ≡ false =
    ap (λ (b : ℕ). eqb b open_brace) (eqb-true (get_or p k 0) close_brace e) in
    rw (e, d) (inside-skips p k)

pub ends-in-some : (b : ℕ) (p : List ℕ) (k : ℕ) → ends_in b p k ≡ true → 0 < k
ends-in-some b p zero e = absurd (false≢true e)
ends-in-some b p (suc k) e = omega arith

-- ---- The parent

module _ (p : List ℕ) (k : ℕ) where
  pub parent-selected : ends_in close_brace p k ≡ true → before_last open_brace p k ≡ parent_length p k
  unfolding parent_length
  parent-selected e = rw e

  pub parent-none : ends_in close_brace p k ≡ false → k ≤ 1 → 0 ≡ parent_length p k
  unfolding parent_length
  parent-none e h = rw (e, le-leb k 1 h)

  pub parent-named : ends_in close_brace p k ≡ false → 1 < k → before_name p k ≡ parent_length p k
  unfolding parent_length
  parent-named e h = rw (e, lt-leb k 1 h)

-- ---- Steps up

pub intro-more : (p : List ℕ) (d k next : ℕ) → 0 < d → next ≡ intro_step p k → intro_length d p k ≡ intro_length (d - 1) p next
intro-more p zero k next h e = absurd (omega arith)
intro-more p (suc d) k next h e = rw (sub-one (suc d), e)

pub intro-stays : (p : List ℕ) (d k : ℕ) → k ≡ intro_step p k → intro_length d p k ≡ k
intro-stays p zero k e = refl
intro-stays p (suc d) k e = ap (intro_length d p) (sym e) ∙ intro-stays p d k e
