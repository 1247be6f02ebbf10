-- Lists of node numbers: what the definitions say of them. Nothing here is document 01's.
use Rattle.std.specs.Prelude.{◌≡◌, Bool, true, false, ◌||◌, ◌&&◌, cond, List, [], ◌∷◌, ℕ, zero, suc, ◌+◌, eqb}

-- P holds of each element
abbrev pub All : (ℕ → Type 0) → List ℕ → Type 0
All P [] = Unit {0}
All P (x ∷ xs) = P x × All P xs

-- R holds of each earlier element and each later one
abbrev pub Pairs : (ℕ → ℕ → Type 0) → List ℕ → Type 0
Pairs R [] = Unit {0}
Pairs R (x ∷ xs) = All (R x) xs × Pairs R xs

abbrev pub bit : Bool → ℕ
bit true = 1
bit false = 0

-- how often a stands in the list
abbrev pub count : ℕ → List ℕ → ℕ
count a [] = 0
count a (x ∷ xs) = bit (eqb a x) + count a xs

-- ys has each number as often as xs: it is a permutation
abbrev pub SameCounts : List ℕ → List ℕ → Type 0
SameCounts xs ys = (a : ℕ) → count a xs ≡ count a ys

abbrev pub pick : Bool → List ℕ → List ℕ → List ℕ
pick true a b = a
pick false a b = b

abbrev pub filter : (ℕ → Bool) → List ℕ → List ℕ
filter k [] = []
filter k (x ∷ xs) = pick (k x) (x ∷ filter k xs) (filter k xs)

-- the test passes at each element
abbrev pub every : (ℕ → Bool) → List ℕ → Bool
every p [] = true
every p (x ∷ xs) = p x && every p xs

-- the test passes at each number below n, and at some
abbrev pub all_below : (ℕ → Bool) → ℕ → Bool
all_below p zero = true
all_below p (suc n) = p n && all_below p n

abbrev pub any_below : (ℕ → Bool) → ℕ → Bool
any_below p zero = false
any_below p (suc n) = p n || any_below p n

-- the elements whose places pass the test (`rest` once: an example of 20 nodes would take 2²⁰
-- steps)
abbrev pub keep_at {ℓ} : {A : Type ℓ} → (ℕ → Bool) → List A → List A
keep_at k [] = []
keep_at k (x ∷ xs) = let rest = keep_at (λ i. k (suc i)) xs in cond (k 0) (x ∷ rest) rest
