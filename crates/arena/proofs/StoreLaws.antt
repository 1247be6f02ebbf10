-- Stores one after the other, each where the one before it ends, are one store of all their bytes.
-- Assumes nothing.
use mathlib.Core.Path.{◌≡◌, refl, ap, ◌∙◌}
use mathlib.Core.Bool.{Bool, true, false}
use mathlib.Core.List.{List, [], ◌∷◌, ◌++◌}
use Prim.Native.Nat.{ℕ, ◌+◌, ◌≤◌, ◌<◌}
use native.Mathlib.Omega.{arith}
use lib.ListN.{length, length-append}
use Rattle.model.specs.Bytes.{stored}
use Rattle.model.specs.Lists.{bit}
use Rattle.model.specs.Snapshot.{big_endian}
use Rattle.laws.proofs.StoredLaws.{length-stored, stored_next}

-- the parts and then `last`, stored in s from `at + k` on one after the other, leave t
abbrev pub Run : ℕ → ℕ → List (List ℕ) → List ℕ → List ℕ → List ℕ → Type 0
Run at k [] last s t = t ≡ stored (at + k) last s
Run at k (p ∷ ps) last s t = (m : List ℕ) × (m ≡ stored (at + k) p s) × Run at (k + length p) ps last m t

abbrev pub joined : List (List ℕ) → List ℕ → List ℕ
joined [] last = last
joined (p ∷ ps) last = p ++ joined ps last

pub run-stored : (at k : ℕ) (ps : List (List ℕ)) (last s t : List ℕ) → at + k + length (joined ps last) ≤ length s
    → Run at k ps last s t → t ≡ stored (at + k) (joined ps last) s
run-stored at k [] last s t fits e = e
run-stored at k (p ∷ ps) last s t fits (m, e, r) =
    let rest = joined ps last in
    let both : length (p ++ rest) ≡ length p + length rest = length-append p rest in
    let kept : length m ≡ length s = ap length e ∙ length-stored (at + k) p s (omega arith) in
    run-stored at (k + length p) ps last m t (omega arith) r
    ∙ ap (λ (l : List ℕ). stored (at + (k + length p)) rest l) e
    ∙ ap (λ (i : ℕ). stored i rest (stored (at + k) p s)) (omega arith)
    ∙ stored_next (at + k) p rest s (omega arith)

-- the first of them at `at` itself
pub run-stored-at : (at : ℕ) (p : List ℕ) (ps : List (List ℕ)) (last s m t : List ℕ) → at + length (p ++ joined ps last) ≤ length s
    → m ≡ stored at p s → Run at (length p) ps last m t → t ≡ stored at (p ++ joined ps last) s
run-stored-at at p ps last s m t fits e r =
    let rest = joined ps last in
    let both : length (p ++ rest) ≡ length p + length rest = length-append p rest in
    let kept : length m ≡ length s = ap length e ∙ length-stored at p s (omega arith) in
    run-stored at (length p) ps last m t (omega arith) r
    ∙ ap (λ (l : List ℕ). stored (at + length p) rest l) e ∙ stored_next at p rest s (omega arith)

-- ---- A number below 256 is its one byte

pub one_byte : (x : ℕ) → x < 256 → big_endian 1 x ≡ x ∷ []
one_byte x h = ap (λ (b : ℕ). b ∷ []) (omega arith)

pub bit_byte : (b : Bool) → big_endian 1 (bit b) ≡ bit b ∷ []
bit_byte true = refl
bit_byte false = refl
