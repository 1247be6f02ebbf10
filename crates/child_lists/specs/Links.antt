-- Child lists in an array, one after the other, and the links that they make.
use Rattle.std.specs.Prelude.{◌≡◌, List, [], ◌∷◌, ◌++◌, ℕ, zero, suc, ◌+◌, ◌≤◌, ◌<◌, length, get_or, set}
use Rattle.std.proofs.Math.Seq.{slice}
use Rattle.model.specs.Arena.{slot_at, first_of, last_of}
use Rattle.model.specs.Bytes.{stored}
use Rattle.model.specs.Node.{invalid}
use Rattle.model.specs.Snapshot.{big_endian}

-- the lists of the first n parents, one after the other
abbrev pub flat : (ℕ → List ℕ) → ℕ → List ℕ
flat lists zero = []
flat lists (suc n) = flat lists n ++ lists n

-- they stand at the front of `sorted`, and `ends` has where each ends
pub record Segments (lists : ℕ → List ℕ) (n : ℕ) (sorted ends : List ℕ) : Type 0 where
  pub long : length sorted ≡ 1024
  pub as_long : length ends ≡ 1024
  pub rest : List ℕ
  pub front : sorted ≡ flat lists n ++ rest
  pub ended : (p : ℕ) → p < n → get_or ends p 0 ≡ length (flat lists (suc p))

-- ---- The parts: `sorted` has one for each parent, one after the other, and `ends` has where each ends

abbrev pub start_of : List ℕ → ℕ → ℕ
start_of ends zero = 0
start_of ends (suc p) = get_or ends p 0

abbrev pub part : List ℕ → List ℕ → ℕ → List ℕ
part sorted ends p = slice (start_of ends p) (get_or ends p 0) sorted

-- the parts of the first n parents are within, and of node numbers
pub record Parted (sorted ends : List ℕ) (n : ℕ) : Type 0 where
  pub long : length sorted ≡ 1024
  pub as_long : length ends ≡ 1024
  pub grows : (p : ℕ) → p < n → start_of ends p ≤ get_or ends p 0
  pub within : (p : ℕ) → p < n → get_or ends p 0 ≤ 1024
  pub numbers : (p k : ℕ) → p < n → k < get_or ends p 0 → get_or sorted k 0 < 1024

-- the siblings after those of one part put into `next`, and after those of the first n parts
abbrev pub nexts_set : List ℕ → List ℕ → List ℕ
nexts_set [] next = next
nexts_set (c ∷ cs) next = set (nexts_set cs next) c (first_of cs)

abbrev pub nexts_made : List ℕ → List ℕ → ℕ → List ℕ → List ℕ
nexts_made sorted ends zero next = next
nexts_made sorted ends (suc p) next = nexts_set (part sorted ends p) (nexts_made sorted ends p next)

-- the links of the first n parents; node 0 has no sibling
pub record Linked (sorted ends : List ℕ) (n : ℕ) (first last before next : List ℕ) : Type 0 where
  pub firsts : (p : ℕ) → p < n → get_or first p 0 ≡ first_of (part sorted ends p)
  pub lasts : (p : ℕ) → p < n → get_or last p 0 ≡ last_of (part sorted ends p)
  pub nexts : next ≡ nexts_made sorted ends n (set before 0 invalid)

-- ---- What is written: the links of n nodes

abbrev pub links_written : List ℕ → List ℕ → List ℕ → ℕ → List ℕ → List ℕ
links_written first last next zero bs = bs
links_written first last next (suc n) bs =
    stored (slot_at n) (big_endian 4 (get_or first n 0) ++ (big_endian 4 (get_or last n 0) ++ big_endian 4 (get_or next n 0)))
    (links_written first last next n bs)

-- ---- The same list by list: the sibling after each child, then the first and the last child of the parent

abbrev pub next_stored : ℕ → ℕ → List ℕ → List ℕ
next_stored n next bs = stored (slot_at n + 8) (big_endian 4 next) bs

abbrev pub ends_stored : ℕ → ℕ → ℕ → List ℕ → List ℕ
ends_stored n first last bs = stored (slot_at n) (big_endian 4 first ++ big_endian 4 last) bs

abbrev pub nexts_stored : List ℕ → List ℕ → List ℕ
nexts_stored [] bs = bs
nexts_stored (c ∷ cs) bs = next_stored c (first_of cs) (nexts_stored cs bs)

abbrev pub list_stored : ℕ → List ℕ → List ℕ → List ℕ
list_stored p cs bs = ends_stored p (first_of cs) (last_of cs) (nexts_stored cs bs)

abbrev pub lists_stored : List ℕ → List ℕ → ℕ → List ℕ → List ℕ
lists_stored sorted ends zero bs = bs
lists_stored sorted ends (suc p) bs = list_stored p (part sorted ends p) (lists_stored sorted ends p bs)
