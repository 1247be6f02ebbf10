-- What the functions that read a path from its front promise each other. `reading` is the whole of
-- it: what the reading comes to from a state on, given the names met so far; from the start it is
-- `count_prims`, but for the limit of 255 bytes (proofs/ReadingLaws.antt).
use Rattle.std.specs.Prelude.{◌≡◌, Bool, true, false, not, ◌&&◌, cond, Option, Some, None, List, [], ◌∷◌, ℕ, suc, ◌<◌, ◌≤◌, eqb, ltb, length, get_or, drop}
use Rattle.model.specs.Path.{State, name, set_start, closed, step, may_end, in_name, is_name_start, is_word_byte, is_selection_byte}
use Rattle.path.specs.declared.scan.Element.{Element}
use Rattle.path.specs.declared.scan.Element.TheVariants.{Name, Selection}

-- the names met once the reading has gone from q to r
abbrev pub counted : State → State → ℕ → ℕ
counted q r n = cond (not (in_name q) && in_name r) (suc n) n

abbrev pub reading : State → ℕ → List ℕ → Option ℕ
reading q n [] = cond (may_end q) (Some n) None
reading q n (b ∷ bs) = reading (step q b) (counted q (step q b) n) bs

-- a byte of a selection, or else of a name or a set
abbrev pub in_run : Bool → ℕ → Bool
in_run true = is_selection_byte
in_run false = is_word_byte

-- from `at` up to i stand bytes that pass the test
pub record Passed (test : ℕ → Bool) (p : List ℕ) (at i : ℕ) : Type 0 where
  pub from : at ≤ i
  pub within : i ≤ length p
  pub all : (k : ℕ) → at ≤ k → k < i → test (get_or p k 0) ≡ true

-- from `at` up to r stand bytes that pass the test, and then none
pub record Run (test : ℕ → Bool) (p : List ℕ) (at r : ℕ) : Type 0 where
  pub from : at ≤ r
  pub within : r ≤ length p
  pub all : (k : ℕ) → at ≤ k → k < r → test (get_or p k 0) ≡ true
  pub stops : r < length p → test (get_or p r 0) ≡ false

abbrev pub begins_name : List ℕ → ℕ → Bool
begins_name p at = ltb at (length p) && is_name_start (get_or p at 0)

abbrev pub stands_at : List ℕ → ℕ → ℕ → Bool
stands_at p at b = ltb at (length p) && eqb (get_or p at 0) b

-- the reading at `at` in state q goes on at e in state r
pub record GoesOn (p : List ℕ) (q : State) (at : ℕ) (r : State) (more : ℕ → ℕ) (e : ℕ) : Type 0 where
  pub further : at < e
  pub within : e ≤ length p
  pub same : (n : ℕ) → reading q n (drop at p) ≡ reading r (more n) (drop e p)

-- it comes to nothing
abbrev pub Fails : List ℕ → State → ℕ → Type 0
Fails p q at = (n : ℕ) → reading q n (drop at p) ≡ None

-- no word byte stands at e
abbrev pub Stops : List ℕ → ℕ → Type 0
Stops p e = e < length p → is_word_byte (get_or p e 0) ≡ false

abbrev pub same : ℕ → ℕ
same n = n

abbrev pub NameRead : List ℕ → State → ℕ → Option ℕ → Type 0
NameRead p q at (Some e) = GoesOn p q at name suc e × Stops p e
NameRead p q at None = Fails p q at

abbrev pub SelectionRead : List ℕ → ℕ → Option ℕ → Type 0
SelectionRead p at (Some e) = GoesOn p set_start at closed same e
SelectionRead p at None = Fails p set_start at

abbrev pub ElementRead : List ℕ → State → ℕ → Option Element → Type 0
ElementRead p q at (Some (Name e)) = GoesOn p q at name suc e × Stops p e
ElementRead p q at (Some (Selection e)) = GoesOn p q at closed same e
ElementRead p q at None = Fails p q at

-- where the reading stands between two elements
abbrev pub standing : Bool → State
standing selected = cond selected closed name
