-- The tables by which many paths are read, and what the functions that read by them promise each
-- other. Bytes of one kind are read alike; what a name, a set or a selection may hold of each kind
-- is in the rows.
use Rattle.std.specs.Prelude.{None, Option, Some}
use Rattle.std.specs.Prelude.{◌≡◌, Bool, false, ◌||◌, cond, List, [], ◌∷◌, ◌++◌, ℕ, ◌+◌, ◌*◌, ◌/◌, ◌%◌, ◌≤◌, ◌<◌, eqb, length, get_or, drop}
use Rattle.model.specs.Path.{State, start, root, slash, name, set_start, set, selection, closed, dead}
use Rattle.path.specs.PathReading.{reading}

-- the kind of each byte: 0 a letter or `_`, 1 a digit, 2 `/`, 3 `{`, 4 `=`, 5 `}`, 6 `-` or `|`, and
-- 7 any other
unfoldable pub kind_list : List ℕ
kind_list =
    7 ∷ 7 ∷ 7 ∷ 7 ∷ 7 ∷ 7 ∷ 7 ∷ 7 ∷ 7 ∷ 7 ∷ 7 ∷ 7 ∷ 7 ∷ 7 ∷ 7 ∷ 7 ∷ 7 ∷ 7 ∷ 7 ∷ 7 ∷ 7 ∷ 7 ∷ 7 ∷ 7 ∷ 7 ∷ 7 ∷ 7 ∷ 7 ∷ 7 ∷ 7 ∷ 7 ∷ 7 ∷ 7 ∷ 7 ∷
    7 ∷ 7 ∷ 7 ∷ 7 ∷ 7 ∷ 7 ∷ 7 ∷ 7 ∷ 7 ∷ 7 ∷ 7 ∷ 6 ∷ 7 ∷ 2 ∷ 1 ∷ 1 ∷ 1 ∷ 1 ∷ 1 ∷ 1 ∷ 1 ∷ 1 ∷ 1 ∷ 1 ∷ 7 ∷ 7 ∷ 7 ∷ 4 ∷ 7 ∷ 7 ∷ 7 ∷ 0 ∷ 0 ∷ 0 ∷
    0 ∷ 0 ∷ 0 ∷ 0 ∷ 0 ∷ 0 ∷ 0 ∷ 0 ∷ 0 ∷ 0 ∷ 0 ∷ 0 ∷ 0 ∷ 0 ∷ 0 ∷ 0 ∷ 0 ∷ 0 ∷ 0 ∷ 0 ∷ 0 ∷ 0 ∷ 0 ∷ 7 ∷ 7 ∷ 7 ∷ 7 ∷ 0 ∷ 7 ∷ 0 ∷ 0 ∷ 0 ∷ 0 ∷ 0 ∷
    0 ∷ 0 ∷ 0 ∷ 0 ∷ 0 ∷ 0 ∷ 0 ∷ 0 ∷ 0 ∷ 0 ∷ 0 ∷ 0 ∷ 0 ∷ 0 ∷ 0 ∷ 0 ∷ 0 ∷ 0 ∷ 0 ∷ 0 ∷ 0 ∷ 3 ∷ 6 ∷ 5 ∷ 7 ∷ 7 ∷ 7 ∷ 7 ∷ 7 ∷ 7 ∷ 7 ∷ 7 ∷ 7 ∷ 7 ∷
    7 ∷ 7 ∷ 7 ∷ 7 ∷ 7 ∷ 7 ∷ 7 ∷ 7 ∷ 7 ∷ 7 ∷ 7 ∷ 7 ∷ 7 ∷ 7 ∷ 7 ∷ 7 ∷ 7 ∷ 7 ∷ 7 ∷ 7 ∷ 7 ∷ 7 ∷ 7 ∷ 7 ∷ 7 ∷ 7 ∷ 7 ∷ 7 ∷ 7 ∷ 7 ∷ 7 ∷ 7 ∷ 7 ∷ 7 ∷
    7 ∷ 7 ∷ 7 ∷ 7 ∷ 7 ∷ 7 ∷ 7 ∷ 7 ∷ 7 ∷ 7 ∷ 7 ∷ 7 ∷ 7 ∷ 7 ∷ 7 ∷ 7 ∷ 7 ∷ 7 ∷ 7 ∷ 7 ∷ 7 ∷ 7 ∷ 7 ∷ 7 ∷ 7 ∷ 7 ∷ 7 ∷ 7 ∷ 7 ∷ 7 ∷ 7 ∷ 7 ∷ 7 ∷ 7 ∷
    7 ∷ 7 ∷ 7 ∷ 7 ∷ 7 ∷ 7 ∷ 7 ∷ 7 ∷ 7 ∷ 7 ∷ 7 ∷ 7 ∷ 7 ∷ 7 ∷ 7 ∷ 7 ∷ 7 ∷ 7 ∷ 7 ∷ 7 ∷ 7 ∷ 7 ∷ 7 ∷ 7 ∷ 7 ∷ 7 ∷ 7 ∷ 7 ∷ 7 ∷ 7 ∷ 7 ∷ 7 ∷ 7 ∷ 7 ∷
    7 ∷ 7 ∷ 7 ∷ 7 ∷ 7 ∷ 7 ∷ 7 ∷ 7 ∷ 7 ∷ 7 ∷ 7 ∷ 7 ∷ 7 ∷ 7 ∷ 7 ∷ 7 ∷ 7 ∷ 7
    ∷ []

abbrev pub nine_times : List ℕ → List ℕ
nine_times [] = []
nine_times (k ∷ ks) = k * 9 ∷ nine_times ks

-- the kinds, and behind them each 9 times
unfoldable pub kind_table : List ℕ
kind_table = kind_list ++ nine_times kind_list

-- the row of each pair of kinds, the first kind 9 times; as the second kind 8 stands for no byte
unfoldable pub pair_table : List ℕ
pair_table =
    344257793861376 ∷ 344257793861376 ∷ 312261302412160 ∷ 373833953798784 ∷ 281484445360128 ∷ 282918085730304 ∷ 282677567561728 ∷
    281474976718848 ∷ 344257793861376 ∷ 1210107265024 ∷ 1210107265024 ∷ 114688 ∷ 344064 ∷ 9395240960 ∷ 1443109011456 ∷ 1202590842880 ∷ 0 ∷
    1210107265024 ∷ 1277952 ∷ 0 ∷ 0 ∷ 0 ∷ 0 ∷ 0 ∷ 0 ∷ 0 ∷ 114688 ∷ 123145302769664 ∷ 0 ∷ 0 ∷ 0 ∷ 0 ∷ 0 ∷ 0 ∷ 0 ∷ 92358977077248 ∷
    9395240960 ∷ 9395240960 ∷ 0 ∷ 0 ∷ 0 ∷ 11274289152 ∷ 9395240960 ∷ 0 ∷ 9395240960 ∷ 2680059592704 ∷ 0 ∷ 0 ∷ 721554505728 ∷ 0 ∷ 0 ∷ 0 ∷ 0 ∷
    1443109011456 ∷ 1202590842880 ∷ 1202590842880 ∷ 0 ∷ 0 ∷ 0 ∷ 1443109011456 ∷ 1202590842880 ∷ 0 ∷ 1202590842880 ∷ 0 ∷ 0 ∷ 0 ∷ 0 ∷ 0 ∷ 0 ∷
    0 ∷ 0 ∷ 0
    ∷ []

pub record Tables (kinds pairs : List ℕ) : Type 0 where
  pub kinds-right : kinds ≡ kind_table
  pub pairs-right : pairs ≡ pair_table

unfoldable pub kind_of : ℕ → ℕ
kind_of b = get_or kind_table b 0

unfoldable pub row_of : ℕ → ℕ → ℕ
row_of k l = get_or pair_table (k * 9 + l) 0

abbrev pub no_byte : ℕ
no_byte = 8

-- ---- Where a reading by rows stands

-- the number of a state; the first two have no place in a row
abbrev pub number_of : State → ℕ
number_of dead = 0
number_of slash = 1
number_of name = 2
number_of set_start = 3
number_of set = 4
number_of selection = 5
number_of closed = 6
number_of start = 7
number_of root = 8

-- `at` is reached in the state that the word has in its last six bits, with so many names met, by a
-- reading of what follows the first slash
pub record Reached (p : List ℕ) (at word met : ℕ) : Type 0 where
  pub state : State
  pub low : number_of state < 7
  pub coded : word % 64 ≡ 7 * number_of state
  pub within : at ≤ length p
  pub few : met ≤ at
  pub same : reading state met (drop at p) ≡ reading slash 0 (drop 1 p)

-- what the reading comes to where it ends with this word
abbrev pub ending : ℕ → ℕ → Option ℕ
ending word met = cond (eqb (word % 64) 14 || eqb (word % 64) 42) (Some met) None

-- the same of a number that has the names met 64 times, and the word's last six bits
abbrev pub ends_as : ℕ → Option ℕ
ends_as n = ending n (n / 64)

-- the reading of what follows the first slash ends with this number
pub record ReadTo (p : List ℕ) (r : ℕ) : Type 0 where
  pub small : r < 16384
  pub same : ends_as r ≡ reading slash 0 (drop 1 p)

-- whether what a path was read as is so many names
abbrev pub is_names : ℕ → Option ℕ → Bool
is_names n (Some m) = eqb n m
is_names n None = false
