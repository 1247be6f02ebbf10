-- The answer that two numbers have by `smaller`; an answer's number tells it (`same_number`). Assumes
-- nothing.
use mathlib.Core.Path.{◌≡◌, refl, sym}
use Prim.Native.Nat.{ℕ, ◌<◌}
use native.Mathlib.Omega.{arith}
use borrow.Author.Tests.{eq-eqb, ne_eqb, lt-ltb, le-ltb}
use Rattle.std.specs.Cmp.{ranks}
use Rattle.std.specs.Ordering.{nat_cmp, MatchOrdering}
use Rattle.std.specs.declared.cmp.Ordering.{Ordering}
use Rattle.std.specs.declared.cmp.Ordering.TheVariants.{Less, Equal, Greater}
use Rattle.model.specs.Answers.{ordering_number}
use Rattle.model.specs.Strength.{smaller}

pub smaller-lt : (x y : ℕ) → x < y → smaller x y ≡ Less
unfolding smaller
smaller-lt x y h = rw (lt-ltb x y h, smaller)

pub smaller-eq : (x y : ℕ) → x ≡ y → smaller x y ≡ Equal
unfolding smaller
smaller-eq x y h = rw (le-ltb x y (omega arith), eq-eqb x y h, smaller)

pub smaller-gt : (x y : ℕ) → y < x → smaller x y ≡ Greater
unfolding smaller
smaller-gt x y h = rw (le-ltb x y (omega arith), ne_eqb x y (λ e. omega arith), smaller)

-- std's comparison of numbers is this one
pub compared : (x y : ℕ) → nat_cmp x y ≡ smaller x y
compared x y = go (nat_cmp x y) (ranks x y)
  where
    go : (o : Ordering) → MatchOrdering o (x < y) (x ≡ y) (y < x) → o ≡ smaller x y
    go Less h = sym (smaller-lt x y h)
    go Equal h = sym (smaller-eq x y h)
    go Greater h = sym (smaller-gt x y h)

pub same_number : (x y : Ordering) → ordering_number x ≡ ordering_number y → x ≡ y
same_number Less Less e = refl
same_number Equal Equal e = refl
same_number Greater Greater e = refl
same_number Less Equal e = absurd (omega arith)
same_number Less Greater e = absurd (omega arith)
same_number Equal Less e = absurd (omega arith)
same_number Equal Greater e = absurd (omega arith)
same_number Greater Less e = absurd (omega arith)
same_number Greater Equal e = absurd (omega arith)
