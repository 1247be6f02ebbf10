-- Lines that compare numbers: when a line is passed and when it settles a list. Assumes nothing.
use mathlib.Core.Path.{◌≡◌}
use Prim.Native.Nat.{ℕ, ◌<◌}
use native.Mathlib.Omega.{arith}
use native.Mathlib.Decide.{dec_lt}
use Rattle.std.specs.declared.cmp.Ordering.{Ordering}
use Rattle.model.specs.Strength.{View, first, smaller}
use Rattle.laws.proofs.SmallerLaws.{smaller-lt, smaller-eq, smaller-gt}

-- "sibling number, then node number"
abbrev pub by_sibling : View → ℕ → ℕ → Ordering
by_sibling u a b = first (smaller (u.sibling a) (u.sibling b)) (smaller a b)

-- a line that does not differ is passed
pub passed : (x y : ℕ) (rest : Ordering) → x ≡ y → first (smaller x y) rest ≡ rest
passed x y rest h = rw (smaller-eq x y h)

-- one that differs settles the list
pub settles : (x y : ℕ) (rest : Ordering) → (x ≡ y → ⊥) → first (smaller x y) rest ≡ smaller x y
settles x y rest h = go (dec_lt x y)
  where
    go : Dec (x < y) → first (smaller x y) rest ≡ smaller x y
    go (yes l) = rw (smaller-lt x y l)
    go (no l) = rw (smaller-gt x y (omega arith))

-- two numbers that were read compare as what they were read from
module _ {x y m n : ℕ} (left : x ≡ m) (right : y ≡ n) where
  pub read_same : x ≡ y → m ≡ n
  read_same e = omega arith

  pub read-other : (x ≡ y → ⊥) → m ≡ n → ⊥
  read-other differ e = differ (omega arith)

  pub read-smaller : {o : Ordering} → o ≡ smaller x y → o ≡ smaller m n
  read-smaller e = rw (← left, ← right) e
