-- Document 01, "Path", with the selections of document 02, W2: what a path is, its prim count,
-- parent and last name, appending a name, and the path at an introduction depth.
-- All are defined on any bytes: where the paper speaks of a path, its words are applied to bytes
-- that are none as well. A front part of a path is given by its length, so `parent_length p k` is
-- how much the parent keeps of the first k bytes of p.
-- The laws are in laws/proofs/PathLaws.antt; laws/proofs/PathGrammar.antt has the grammar that
-- `well_formed` decides, as the paper words it.
use Rattle.std.specs.Prelude.{Err, None, Ok, Option, Result, Some}
use Rattle.model.specs.declared.Refusal.{Refusal}
use Rattle.std.specs.Prelude.{Bool, true, false, not, ◌||◌, ◌&&◌, cond, List, [], ◌∷◌, ◌++◌, ℕ, zero, suc, pred, ◌+◌, min, max, eqb, leb, ltb, length, get_or, take, drop}
use Rattle.model.specs.declared.Refusal.TheVariants.{Size, Path, Capacity}

-- ---- The bytes with a meaning

abbrev pub solidus : ℕ
solidus = 0x2f

abbrev pub open_brace : ℕ
open_brace = 0x7b

abbrev pub close_brace : ℕ
close_brace = 0x7d

abbrev pub equals_sign : ℕ
equals_sign = 0x3d

-- "ASCII letters, digits or `_`; names and sets do not begin with a digit"
abbrev pub between : ℕ → ℕ → ℕ → Bool
between low high b = leb low b && leb b high

-- a byte that a name or a set may begin with
unfoldable pub is_name_start : ℕ → Bool
is_name_start b = between 0x61 0x7a b || (between 0x41 0x5a b || eqb b 0x5f)

-- a byte of a name or a set
unfoldable pub is_word_byte : ℕ → Bool
is_word_byte b = is_name_start b || between 0x30 0x39 b

-- "a selection is any run, also of length nothing, of letters, digits, `_`, `-` and `|`" (W2): a byte
-- of one
unfoldable pub is_selection_byte : ℕ → Bool
is_selection_byte b = is_word_byte b || (eqb b 0x2d || eqb b 0x7c)

-- ---- Well-formed paths

-- Where the reading of a path stands: before it; after its first slash; after a later slash; in a
-- name; after `{`; in a set; in a selection, which may be empty; after `}`; past a byte that fits
-- nowhere.
pub data State : Type 0 where
  start root slash name set_start set selection closed dead : State

-- "A path is `/`, or `/` then a prim name, then any run of: `/name`; `{set=selection}`; and,
-- straight after `}`, a name with no slash. After `}` a slash is malformed."
abbrev pub step : State → ℕ → State
step start b = cond (eqb b solidus) root dead
step root b = cond (is_name_start b) name dead
step slash b = cond (is_name_start b) name dead
step name b = cond (is_word_byte b) name (cond (eqb b solidus) slash (cond (eqb b open_brace) set_start dead))
step set_start b = cond (is_name_start b) set dead
step set b = cond (is_word_byte b) set (cond (eqb b equals_sign) selection dead)
step selection b = cond (is_selection_byte b) selection (cond (eqb b close_brace) closed dead)
step closed b = cond (is_name_start b) name (cond (eqb b open_brace) set_start dead)
step dead b = dead

abbrev pub run : State → List ℕ → State
run q [] = q
run q (b ∷ bs) = run (step q b) bs

-- a path may end here
abbrev pub may_end : State → Bool
may_end start = false
may_end root = true
may_end slash = false
may_end name = true
may_end set_start = false
may_end set = false
may_end selection = false
may_end closed = true
may_end dead = false

-- "A whole path has 1 to 255 bytes"; this is what question 5 asks of bytes, and so "question 5 reads
-- the new rule" (W2)
unfoldable pub well_formed : List ℕ → Bool
well_formed p = may_end (run start p) && leb (length p) 255

-- ---- "The prim count is the number of names"

abbrev pub in_name : State → Bool
in_name start = false
in_name root = false
in_name slash = false
in_name name = true
in_name set_start = false
in_name set = false
in_name selection = false
in_name closed = false
in_name dead = false

-- 1 where a step leads into a name
abbrev pub enters : State → State → ℕ
enters q r = cond (not (in_name q) && in_name r) 1 0

-- the number of names that the reading enters
abbrev pub names : State → List ℕ → ℕ
names q [] = 0
names q (b ∷ bs) = enters q (step q b) + names (step q b) bs

unfoldable pub prim_count : List ℕ → ℕ
prim_count p = names start p

unfoldable pub count_prims : List ℕ → Option ℕ
count_prims p = cond (well_formed p) (Some (prim_count p)) None

-- ---- The parent

-- of the first k bytes, how many there are up to the last b and with it; 0 where there is none
abbrev pub after_last : ℕ → List ℕ → ℕ → ℕ
after_last b p zero = 0
after_last b p (suc k) = cond (eqb (get_or p k 0) b) (suc k) (after_last b p k)

-- how many there are before the last b; 0 where there is none
abbrev pub before_last : ℕ → List ℕ → ℕ → ℕ
before_last b p k = pred (after_last b p k)

-- the first k bytes end in b
abbrev pub ends_in : ℕ → List ℕ → ℕ → Bool
ends_in b p zero = false
ends_in b p (suc k) = eqb (get_or p k 0) b

-- "before the last `/`, or after the last `}` if that is later"; the slash that begins a path
-- stays: "`/A` has parent `/`"
unfoldable pub before_name : List ℕ → ℕ → ℕ
before_name p k = max (max (before_last solidus p k) (after_last close_brace p k)) (min (after_last solidus p k) 1)

-- "The parent of a path ending in `}` stops before the last `{`. Otherwise it stops before the last
-- `/`, or after the last `}` if that is later; `/A` has parent `/`; `/` has none." No parent is 0
-- bytes.
unfoldable pub parent_length : List ℕ → ℕ → ℕ
parent_length p k = cond (ends_in close_brace p k) (before_last open_brace p k) (cond (leb k 1) 0 (before_name p k))

unfoldable pub parent : List ℕ → List ℕ
parent p = take (parent_length p (length p)) p

-- ---- The last name, and appending one

-- where the last name of the first k bytes starts: after the last `/` and the last `}`
unfoldable pub name_start : List ℕ → ℕ → ℕ
name_start p k = max (after_last solidus p k) (after_last close_brace p k)

-- no bytes where the path ends in `/` or `}`
unfoldable pub last_name : List ℕ → List ℕ
last_name p = drop (name_start p (length p)) p

unfoldable pub ends_in_name : List ℕ → Bool
ends_in_name p = ltb 0 (length (last_name p))

-- "Appending a name puts `/` between, except after `/` or `}`"
unfoldable pub separator : List ℕ → List ℕ
separator p = cond (ends_in solidus p (length p) || ends_in close_brace p (length p)) [] (solidus ∷ [])

unfoldable pub append_name : List ℕ → List ℕ → List ℕ
append_name p w = p ++ (separator p ++ w)

-- ---- `path_at_intro_depth`

-- "drops all trailing selections": how many of the first k bytes are left, and how many where the
-- first k end inside a selection
abbrev pub without_selections : Bool → List ℕ → ℕ → ℕ
without_selections inside p zero = 0
without_selections inside p (suc k) =
    cond inside
    (cond (eqb (get_or p k 0) open_brace) (without_selections false p k) (without_selections true p k))
    (cond (eqb (get_or p k 0) close_brace) (without_selections true p k) (suc k))

-- "each step drops all trailing selections, then takes the parent; at `/` it stays"
abbrev pub intro_step : List ℕ → ℕ → ℕ
intro_step p k = before_name p (without_selections false p k)

abbrev pub intro_length : ℕ → List ℕ → ℕ → ℕ
intro_length zero p k = k
intro_length (suc d) p k = intro_length d p (intro_step p k)

-- "The introduction path is handed back as the front part of the caller's path"
unfoldable pub path_at_intro_depth : ℕ → List ℕ → List ℕ
path_at_intro_depth d p = take (intro_length d p (length p)) p

-- `/`
abbrev pub absolute_root : List ℕ
absolute_root = solidus ∷ []

-- ---- Two paths

unfoldable pub same_path : List ℕ → List ℕ → Bool
same_path [] [] = true
same_path [] (y ∷ ys) = false
same_path (x ∷ xs) [] = false
same_path (x ∷ xs) (y ∷ ys) = eqb x y && same_path xs ys

-- ---- Appending the last name of a child's path, into a lent buffer

-- Questions 1, 5 and 7: the buffer has 255 bytes; both paths are well formed and the child's ends
-- in a name; 255 bytes suffice.
unfoldable pub append_child_name : List ℕ → List ℕ → List ℕ → Result ℕ Refusal
append_child_name p child out =
    cond (not (eqb (length out) 255)) (Err Size)
    (cond (not (well_formed p && (well_formed child && ends_in_name child))) (Err Path)
    (cond (ltb 255 (length (append_name p (last_name child)))) (Err Capacity) (Ok (length (append_name p (last_name child))))))

-- the buffer afterwards: unchanged where refused; else the new path, and past it what was there
abbrev pub written : Result ℕ Refusal → List ℕ → List ℕ → List ℕ → List ℕ
written (Ok n) p child out = append_name p (last_name child) ++ drop n out
written (Err r) p child out = out
