-- Whether the links of an arena write each node's child list (document 01: chain): the part of
-- question 2 that is left once the records have been found right. A child list by its links and
-- what is right of it, node by node, are in model/specs/Arena.antt.
use Rattle.std.specs.Prelude.{◌≡◌, Bool, ◌&&◌, cond, Option, Some, None, List, ◌∷◌, ℕ, ◌-◌, ◌≤◌, ◌<◌, eqb, length}
use Rattle.model.specs.Lists.{all_below}
use Rattle.model.specs.Node.{invalid}
use Rattle.model.specs.Arena.{arena_bytes, count_in, first_child_in, last_child_in, record_length_in, chain_in, last_of, chain_ends, chain_valid, in_chain_once}
use Rattle.arena.specs.Slot.{parent_in}

-- what the check of the records has shown before: each node's record is long enough for its
-- numbers, node 0 has no parent, the others a lower one
pub record Parented (bs : List ℕ) : Type 0 where
  pub whole : length bs ≡ arena_bytes
  pub few : count_in bs ≤ 1024
  pub numbered : (n : ℕ) → n < count_in bs → 27 ≤ record_length_in bs n
  pub no-parent : 0 < count_in bs → parent_in bs 0 ≡ invalid
  pub lower : (n : ℕ) → 0 < n → n < count_in bs → parent_in bs n < n

-- node n's child list ends, in its last child, and n stands once in its parent's
abbrev pub listed_valid : List ℕ → ℕ → Bool
listed_valid bs n = chain_valid bs n && in_chain_once bs n

-- document 01: "each node but 0 once in its parent's chain"
unfoldable pub child_lists_valid : List ℕ → Bool
child_lists_valid bs = all_below (listed_valid bs) (count_in bs)

-- ---- The walk of one list

-- from n on, with `last` met before, the links end within k nodes, all of them children of v, and
-- the last met is v's last child
abbrev pub ends_right : List ℕ → ℕ → ℕ → ℕ → ℕ → Bool
ends_right bs v k n last = chain_ends bs v k n && eqb (last_child_in bs v) (last_of (last ∷ chain_in bs k n))

-- how many of the k nodes are left then
unfoldable pub walked : List ℕ → ℕ → ℕ → ℕ → ℕ → Option ℕ
walked bs v k n last = cond (ends_right bs v k n last) (Some (k - length (chain_in bs k n))) None

-- how many of k nodes are left after the child list of v
abbrev pub left_after : List ℕ → ℕ → ℕ → Option ℕ
left_after bs v k = walked bs v k (first_child_in bs v) invalid
