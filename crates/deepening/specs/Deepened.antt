-- What deepening asks of an arena and a name, of the graph and of one node, and what its parts
-- leave in an arena. The deepened graph is model/specs/Deepening.antt's `deepen`.
use Rattle.std.specs.Prelude.{◌≡◌, Bool, true, ◌&&◌, List, ◌∷◌, ◌++◌, ℕ, zero, suc, ◌+◌, ◌-◌, ◌≤◌, ◌<◌, eqb, length, take}
use Rattle.model.specs.Arena.{arena_bytes, slot_at, count_in, ordered_in, finalized_in, shallow_in, local_root_in, first_child_in, last_child_in, next_sibling_in, prim_count_in, node_in, decode}
use Rattle.model.specs.ArenaCalls.{ValidArena}
use Rattle.model.specs.Bytes.{stored}
use Rattle.model.specs.Calls.{paths_fit}
use Rattle.model.specs.Deepening.{deepened, deepen}
use Rattle.model.specs.Node as model
use Rattle.model.specs.Path.{well_formed, prim_count, last_name, ends_in_name, append_name}
use Rattle.model.specs.Snapshot.{big_endian, record_bytes}
use Rattle.arena.specs.Header.{count_stored, marks_stored, local_root_stored}
use Rattle.arena.specs.Slot.{HasPath, node_of}
use Rattle.arena.specs.declared.Node.{Node}

-- ---- What is asked

-- "append the last name of a path that must end in a name"
pub record ChildName (name : List ℕ) : Type 0 where
  pub child : List ℕ
  pub right : well_formed child ≡ true
  pub ends : ends_in_name child ≡ true
  pub last : name ≡ last_name child

-- the questions of the call passed
pub record CanDeepen (bs name : List ℕ) : Type 0 where
  pub opened : ValidArena bs
  pub some-node : 0 < count_in bs
  pub named : ChildName name
  pub fits : paths_fit (deepen name (decode bs)) ≡ true

-- the name can be appended to the path of node n
pub record CanJoin (bs name : List ℕ) (n : ℕ) : Type 0 where
  pub stands : HasPath bs n
  pub right : well_formed (node_in bs n).path ≡ true
  pub counted : prim_count_in bs n ≡ prim_count (node_in bs n).path
  pub named : ChildName name
  pub fits : length (append_name (node_in bs n).path name) ≤ 255

-- and to those of the first `count` nodes
pub record AllJoin (bs name : List ℕ) (count : ℕ) : Type 0 where
  pub whole : length bs ≡ arena_bytes
  pub few : count ≤ 1024
  pub each : (n : ℕ) → n < count → CanJoin bs name n

-- "keeps both if finalized, else clears ordered"
abbrev pub order_kept : List ℕ → Bool
order_kept bs = eqb (ordered_in bs) 1 && eqb (finalized_in bs) 1

-- ---- One site

-- x is the record of node n deepened, and its new path is at the front of `path`
pub record Joined (bs name : List ℕ) (n : ℕ) (x : Node) (path : List ℕ) : Type 0 where
  pub first-child : x.first_child.0 ≡ first_child_in bs n
  pub last-child : x.last_child.0 ≡ last_child_in bs n
  pub next-sibling : x.next_sibling.0 ≡ next_sibling_in bs n
  pub counted : x.prim_count ≡ prim_count (append_name (node_in bs n).path name)
  pub long : x.record_length ≡ 27 + length (append_name (node_in bs n).path name)
  pub short : length (append_name (node_in bs n).path name) ≤ 255
  pub front : take (x.record_length - 27) path ≡ append_name (node_in bs n).path name
  pub node : node_of x (append_name (node_in bs n).path name) ≡ deepened name (node_in bs n)

-- the site of slot n, as model/specs/Arena.antt's `site_bytes` has it
abbrev pub site_stored : ℕ → model.Node → List ℕ → List ℕ
site_stored n x bs = stored (slot_at n + 16) (prim_count x.path ∷ record_bytes x) bs

-- ---- In the graph's own arena

abbrev pub sites_deepened : List ℕ → ℕ → List ℕ → List ℕ
sites_deepened name zero bs = bs
sites_deepened name (suc n) bs = site_stored n (deepened name (node_in bs n)) (sites_deepened name n bs)

-- ---- In a second arena, from the arena bs

abbrev pub header_seeded : List ℕ → ℕ → List ℕ → List ℕ
header_seeded bs count s =
    local_root_stored (local_root_in bs)
    (marks_stored (order_kept bs) (eqb (finalized_in bs) 1) (eqb (shallow_in bs) 1) (count_stored count s))

abbrev pub links_seeded : List ℕ → ℕ → List ℕ → List ℕ
links_seeded bs n s =
    stored (slot_at n) (big_endian 4 (first_child_in bs n) ++ (big_endian 4 (last_child_in bs n) ++ big_endian 4 (next_sibling_in bs n))) s

abbrev pub slot_seeded : List ℕ → List ℕ → ℕ → List ℕ → List ℕ
slot_seeded bs name n s = site_stored n (deepened name (node_in bs n)) (links_seeded bs n s)

abbrev pub slots_seeded : List ℕ → List ℕ → ℕ → List ℕ → List ℕ
slots_seeded bs name zero s = s
slots_seeded bs name (suc n) s = slot_seeded bs name n (slots_seeded bs name n s)
