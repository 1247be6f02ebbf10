-- The laws of `tabulate`: its length, its elements, and that a list is known by what each place
-- has. Assumes nothing.
use mathlib.Core.Path.{◌≡◌, refl, sym, ap, ◌∙◌}
use mathlib.Core.List.{List}
use Prim.Native.Nat.{ℕ, zero, suc, ◌+◌, ◌<◌}
use native.Mathlib.Nat.{add-zero, zero-add}
use native.Mathlib.Omega.{arith}
use lib.ListN.{length, get_or}
use lib.Seq.{ext_get_or}
use Rattle.model.specs.Arena.{tabulate}

pub tabulate-length {ℓ} : {A : Type ℓ} (f : ℕ → A) (at n : ℕ) → length (tabulate f at n) ≡ n
tabulate-length f at zero = refl
tabulate-length f at (suc n) = ap suc (tabulate-length f (suc at) n)

tabulate-from {ℓ} : {A : Type ℓ} (f : ℕ → A) (d : A) (at n i : ℕ) → i < n → get_or (tabulate f at n) i d ≡ f (at + i)
tabulate-from f d at zero i h = absurd (omega arith)
tabulate-from f d at (suc n) zero h = ap f (sym (add-zero at))
tabulate-from f d at (suc n) (suc i) h = tabulate-from f d (suc at) n i (omega arith) ∙ ap f (omega arith)

pub tabulate-at {ℓ} : {A : Type ℓ} (f : ℕ → A) (d : A) (n i : ℕ) → i < n → get_or (tabulate f 0 n) i d ≡ f i
tabulate-at f d n i h = tabulate-from f d 0 n i h ∙ ap f (zero-add i)

pub tabulate-same {ℓ} : {A : Type ℓ} (f : ℕ → A) (d : A) (n : ℕ) (xs : List A) → n ≡ length xs → ((i : ℕ) → i < n → f i ≡ get_or xs i d)
    → tabulate f 0 n ≡ xs
tabulate-same f d n xs e h =
    ext_get_or d (tabulate f 0 n) xs (tabulate-length f 0 n ∙ e)
    (λ i l. let below : i < n = omega (arith, tabulate-length f 0 n) in tabulate-at f d n i below ∙ h i below)
