-- What the searches from the end answer on the two kinds of longer path: one with a name appended,
-- and one with a selection. PathLaws rests on it. Assumes nothing.
use mathlib.Core.Path.{◌≡◌, refl, sym, ap, ◌∙◌}
use mathlib.Core.Bool.{true, false}
use mathlib.Core.List.{List, [], ◌∷◌, ◌++◌, append_assoc, append-nil}
use Prim.Native.Nat.{ℕ, suc, ◌≤◌, ◌<◌}
use native.Mathlib.Omega.{arith}
use lib.ListN.{length, take, length-append}
use lib.Seq.{take-append_seam, take-append-le}
use Rattle.model.specs.Path.{solidus, open_brace, close_brace, equals_sign, is_word_byte, is_selection_byte, start, root, name, closed, run, may_end, after_last, ends_in, before_name, name_start, separator, append_name, without_selections, intro_step}
use Rattle.laws.proofs.PathLemmas.{AllPass, all-pass-append, length-snoc, may-end-not-empty, Ended, at-root, at_name, at-closed, ended, other, open-brace-marks, open-brace-no-selection, all-pass-other, same-below-append, before-name-local, without-selections-le, after-last-le, after-last-snoc, after-last-at, after-last-of-end, before-name-past, name-start-past, ends-in-snoc, without-selections-over, without-selections-none, state-ending, separator-root, separator-name, separator-closed}
use Rattle.laws.proofs.PathGrammar.{Name, Selection, select, name-is-word, append-runs}

-- ---- A name appended

pub name-not-empty : (w : List ℕ) → Name w → 1 ≤ length w
name-not-empty [] n = absurd n
name-not-empty (b ∷ w) n = omega arith

-- a name begins where the list ends, and its parent has k bytes
abbrev NameFollows : List ℕ → ℕ → Type 0
NameFollows l k = (name_start l (length l) ≡ length l) × (before_name l (length l) ≡ k)

name-follows : (p : List ℕ) → may_end (run start p) ≡ true → NameFollows (p ++ separator p) (length p)
unfolding name_start before_name
name-follows p e = go (ended (run start p) e)
  where
    go : Ended (run start p) → NameFollows (p ++ separator p) (length p)
    go (at-root k) = rw (separator-root p k, state-ending p root k) (refl, refl)
    go (at_name k) =
        rw (separator-name p k, after-last-snoc p solidus solidus, after-last-snoc p solidus close_brace)
        (omega (arith, length-snoc p solidus, may-end-not-empty p e, after-last-le p close_brace (length p)))
    go (at-closed k) =
        rw (separator-closed p k, append-nil p, after-last-of-end close_brace p (length p) (state-ending p closed k))
        (omega (arith, may-end-not-empty p e, after-last-le p solidus (length p)))

module _ (p w : List ℕ) where
  pub append-parts : append_name p w ≡ p ++ separator p ++ w
  unfolding append_name
  append-parts = sym (append_assoc p (separator p) w)

  pub append-front : take (length p) (append_name p w) ≡ p
  unfolding append_name
  append-front = take-append_seam p (separator p ++ w)

module _ (p w : List ℕ) (e : may_end (run start p) ≡ true) (n : Name w) where
  pub append-not-short : 1 < length (append_name p w)
  unfolding append_name
  append-not-short = simp length-append (omega (arith, may-end-not-empty p e, name-not-empty w n))

  pub append-not-closed : ends_in close_brace (append_name p w) (length (append_name p w)) ≡ false
  append-not-closed = (state-ending (append_name p w) name (append-runs p w e n).0).1

  pub append-name-start : name_start (p ++ separator p ++ w) (length (p ++ separator p ++ w)) ≡ length (p ++ separator p)
  append-name-start = name-start-past (p ++ separator p) w (name-is-word w n) ∙ (name-follows p e).0

  pub append-before-name : before_name (append_name p w) (length (append_name p w)) ≡ length p
  append-before-name = rw (append-parts p w) (before-name-past (p ++ separator p) w (name-is-word w n) ∙ (name-follows p e).1)

  pub append-intro-step : intro_step (append_name p w) (length (append_name p w)) ≡ length p
  append-intro-step = rw (without-selections-none (append_name p w) (length (append_name p w)) append-not-closed) append-before-name

-- ---- A selection

-- what stands between the braces
abbrev inner : List ℕ → List ℕ → List ℕ
inner s v = s ++ equals_sign ∷ v

module _ (p s v : List ℕ) where
  select-parts : select p s v ≡ p ++ open_brace ∷ inner s v ++ close_brace ∷ []
  select-parts = ap (λ (l : List ℕ). l ++ close_brace ∷ []) (append_assoc p (open_brace ∷ s) (equals_sign ∷ v))

  select-rest : select p s v ≡ p ++ (open_brace ∷ inner s v ++ close_brace ∷ [])
  select-rest = select-parts ∙ append_assoc p (open_brace ∷ inner s v) (close_brace ∷ [])

  pub select-front : (k : ℕ) → k ≤ length p → take k (select p s v) ≡ take k p
  select-front k h = rw select-rest (take-append-le k p (open_brace ∷ inner s v ++ close_brace ∷ []) h)

  pub select-closed : ends_in close_brace (select p s v) (length (select p s v)) ≡ true
  select-closed = ends-in-snoc (p ++ open_brace ∷ s ++ equals_sign ∷ v) close_brace close_brace

  pub select-name-start : name_start (select p s v) (length (select p s v)) ≡ length (select p s v)
  unfolding name_start
  select-name-start =
      rw (after-last-of-end close_brace (select p s v) (length (select p s v)) select-closed)
      (omega (arith, after-last-le (select p s v) solidus (length (select p s v))))

module _ (p s v : List ℕ) (m : Name s) (n : Selection v) where
  inner-other : AllPass (other open_brace) (inner s v)
  inner-other =
      all-pass-append (other open_brace) s (equals_sign ∷ v) (all-pass-other is_word_byte open_brace open-brace-marks s (name-is-word s m))
      (refl, all-pass-other is_selection_byte open_brace open-brace-no-selection v n)

  pub select-opens : after_last open_brace (select p s v) (length (select p s v)) ≡ suc (length p)
  select-opens =
      rw (select-parts p s v, after-last-snoc (p ++ open_brace ∷ inner s v) close_brace open_brace) (after-last-at open_brace p (inner s v) inner-other)

  select-without : without_selections false (select p s v) (length (select p s v)) ≡ without_selections false p (length p)
  select-without = rw (select-parts p s v) (without-selections-over p (inner s v) inner-other)

  pub select-intro-step : intro_step (select p s v) (length (select p s v)) ≡ intro_step p (length p)
  select-intro-step =
      let rest : List ℕ = open_brace ∷ inner s v ++ close_brace ∷ [] in
      let k : ℕ = without_selections false p (length p) in
      rw (select-without, select-rest p s v)
      (before-name-local (p ++ rest) p k (same-below-append p rest k (without-selections-le p false (length p))))
