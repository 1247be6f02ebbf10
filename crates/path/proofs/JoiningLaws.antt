-- Appending a child's name: the questions in their order. Assumes nothing.
use Rattle.std.specs.Prelude.{Err, Ok}
use mathlib.Core.Path.{◌≡◌}
use mathlib.Core.Bool.{Bool, true, false, ◌&&◌, and-eq-true_iff}
use mathlib.Core.List.{List}
use Prim.Native.Nat.{ℕ, ◌+◌, ◌≤◌, ◌<◌}
use native.Mathlib.Omega.{arith}
use borrow.Author.Tests.{ltb-true, lt-ltb, le-ltb, eq-eqb, ne_eqb}
use lib.ListN.{length, length-drop}
use Rattle.model.specs.declared.Refusal.TheVariants.{Size, Path, Capacity}
use Rattle.model.specs.Path.{well_formed, name_start, last_name, ends_in_name, separator, append_name, append_child_name}
use Rattle.laws.proofs.PathGrammar.{well-formed-length}
use Rattle.path.proofs.JoinLaws.{separator-short}

abbrev pub joinable : List ℕ → List ℕ → Bool
joinable p child = well_formed p && (well_formed child && ends_in_name child)

last-name-short : (p : List ℕ) → length (last_name p) ≤ length p
unfolding last_name
last-name-short p = omega (arith, length-drop (name_start p (length p)) p)

-- what can be joined has a name, and the sum of the lengths fits
pub joinable-named : (p child : List ℕ) → joinable p child ≡ true → 0 < length (last_name child)
unfolding ends_in_name
joinable-named p child e =
    let both = (and-eq-true_iff (well_formed p) (well_formed child && ends_in_name child)).0 e in
    ltb-true 0 (length (last_name child)) ((and-eq-true_iff (well_formed child) (ends_in_name child)).0 both.1).1

pub joinable-short : (p child : List ℕ) → joinable p child ≡ true → length p + length (separator p) + length (last_name child) ≤ 511
joinable-short p child e =
    let l = (and-eq-true_iff (well_formed p) (well_formed child && ends_in_name child)).0 e in
    let r = (and-eq-true_iff (well_formed child) (ends_in_name child)).0 l.1 in
    omega (arith, well-formed-length p l.0, well-formed-length child r.0, separator-short p, last-name-short child)

module _ (p child o : List ℕ) where
  pub refused-size : (length o ≡ 255 → ⊥) → Err Size ≡ append_child_name p child o
  unfolding append_child_name
  refused-size d = rw (ne_eqb (length o) 255 d)

  pub refused-path : length o ≡ 255 → joinable p child ≡ false → Err Path ≡ append_child_name p child o
  unfolding append_child_name
  refused-path e f = rw (eq-eqb (length o) 255 e, f)

  pub refused-capacity : length o ≡ 255 → joinable p child ≡ true → 255 < length (append_name p (last_name child))
      → Err Capacity ≡ append_child_name p child o
  unfolding append_child_name
  refused-capacity e f h = rw (eq-eqb (length o) 255 e, f, lt-ltb 255 (length (append_name p (last_name child))) h)

  pub accepted : length o ≡ 255 → joinable p child ≡ true → length (append_name p (last_name child)) ≤ 255
      → Ok (length (append_name p (last_name child))) ≡ append_child_name p child o
  unfolding append_child_name
  accepted e f h = rw (eq-eqb (length o) 255 e, f, le-ltb 255 (length (append_name p (last_name child))) h)
