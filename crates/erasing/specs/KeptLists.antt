-- What stands in the arrays that erasing fills.
use Rattle.std.specs.Prelude.{◌≡◌, List, ◌++◌, map, ℕ, ◌+◌, ◌<◌, length, take, get_or}
use Rattle.model.specs.Lists.{filter}
use Rattle.model.specs.Erasing.{stays, new_number}

-- 1,024 numbers, of which those below n are the new numbers
pub record Numbers (set : List ℕ) (n : ℕ) (numbers : List ℕ) : Type 0 where
  pub long : length numbers ≡ 1024
  pub number : (k : ℕ) → k < n → get_or numbers k 0 ≡ new_number (stays set) k

-- what stays of a list of nodes, by new numbers
abbrev pub kept_list : List ℕ → List ℕ → List ℕ
kept_list set l = map (new_number (stays set)) (filter (stays set) l)

-- the array after a list was put in from `start` to `end`: what was before `start` stays
pub record Gathered (list : List ℕ) (start end : ℕ) (before after : List ℕ) : Type 0 where
  pub ended : end ≡ start + length list
  pub long : length after ≡ length before
  pub front : take end after ≡ take start before ++ list
