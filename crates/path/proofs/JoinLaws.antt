-- Appending a name: where it starts, and the bytes written. Assumes nothing.
use mathlib.Core.Path.{◌≡◌, refl, sym, ap, ◌∙◌}
use mathlib.Core.Bool.{Bool, true, false, ◌||◌, cond}
use mathlib.Core.List.{List, [], ◌∷◌, ◌++◌, append_assoc}
use Prim.Native.Nat.{ℕ, suc, ◌+◌, ◌-◌, ◌≤◌, ◌<◌}
use native.Mathlib.Omega.{arith}
use lib.ListN.{length, take, drop, set, length-append}
use lib.Seq.{drop-cons, drop-drop, set-append_seam, take-append-add, drop-append-add, drop-set-lt}
use Rattle.model.specs.Path.{solidus, close_brace, ends_in, separator, append_name}

-- ---- The byte between a path and a name

module _ (p : List ℕ) where
  pub joined-slash : ends_in solidus p (length p) ≡ true → length p ≡ length p + length (separator p)
  unfolding separator
  joined-slash e = rw e (omega arith)

  pub joined-brace : ends_in solidus p (length p) ≡ false → ends_in close_brace p (length p) ≡ true
      → length p ≡ length p + length (separator p)
  unfolding separator
  joined-brace d e = rw (d, e) (omega arith)

  pub joined-between : ends_in solidus p (length p) ≡ false → ends_in close_brace p (length p) ≡ false
      → length p + 1 ≡ length p + length (separator p)
  unfolding separator
  joined-between d e = rw (d, e)

pub separator-short : (p : List ℕ) → length (separator p) ≤ 1
unfolding separator
separator-short p = go (ends_in solidus p (length p) || ends_in close_brace p (length p))
  where
    go : (t : Bool) → length (cond t [] (solidus ∷ [])) ≤ 1
    go true = omega arith
    go false = omega arith

pub length-append-name : (p w : List ℕ) → length (append_name p w) ≡ length p + length (separator p) + length w
unfolding append_name
length-append-name p w = omega (arith, length-append p (separator p ++ w), length-append (separator p) w)

-- ---- The bytes

put-slash : (p o : List ℕ) → length p < length o → set (p ++ drop (length p) o) (length p) solidus ≡ p ++ (solidus ∷ drop (suc (length p)) o)
put-slash p o h =
    ap (λ (l : List ℕ). set (p ++ l) (length p) solidus) (drop-cons o (length p) 0 h) ∙ set-append_seam p _ (drop (suc (length p)) o) solidus

front-separator : (p r : List ℕ) → take (length (separator p)) (solidus ∷ r) ≡ separator p
unfolding separator
front-separator p r = go (ends_in solidus p (length p) || ends_in close_brace p (length p))
  where
    go : (t : Bool) → take (length (cond t [] (solidus ∷ []))) (solidus ∷ r) ≡ cond t [] (solidus ∷ [])
    go true = refl
    go false = refl

-- the path, a slash behind it, and the name over the slash or behind it
pub put-name : (p w o : List ℕ) (at : ℕ) → at ≡ length p + length (separator p) → 0 < length w → at + length w ≤ length o
    → take at (set (p ++ drop (length p) o) (length p) solidus)
    ++ (w ++ drop (at + length w) (set (p ++ drop (length p) o) (length p) solidus))
    ≡ append_name p w ++ drop (at + length w) o
unfolding append_name
put-name p w o at e h l =
    let n = length p in
    let before = p ++ drop n o in
    let rest = drop (suc n) o in
    let short : n < length o = omega arith in
    let past : n < at + length w = omega arith in
    let j = at + length w - n in
    let m : at + length w ≡ n + j = omega arith in
    let front : take at (set before n solidus) ≡ p ++ separator p =
    ap (take at) (put-slash p o short) ∙ ap (λ (i : ℕ). take i (p ++ (solidus ∷ rest))) e
    ∙ take-append-add p (solidus ∷ rest) (length (separator p)) ∙ ap (λ (r : List ℕ). p ++ r) (front-separator p rest) in
    let back : drop (at + length w) (set before n solidus) ≡ drop (at + length w) o =
    drop-set-lt (at + length w) before n solidus past ∙ ap (λ (i : ℕ). drop i before) m
    ∙ drop-append-add p (drop n o) j ∙ drop-drop j n o ∙ ap (λ (i : ℕ). drop i o) (sym m) in
    rw (front, back) (simp append_assoc)
