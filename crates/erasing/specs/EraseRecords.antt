-- What moving the kept records needs, and what it stores.
use Rattle.std.specs.Prelude.{◌≡◌, true, cond, List, ◌∷◌, ℕ, zero, suc, ◌+◌, ◌<◌, ltb, length, get_or}
use Rattle.model.specs.Bytes.{stored}
use Rattle.model.specs.Node as model
use Rattle.model.specs.Graph.{Graph}
use Rattle.model.specs.Snapshot.{record_bytes}
use Rattle.model.specs.Arena.{slot_at, count_in, prim_count_in, node_in, site_bytes, decode}
use Rattle.model.specs.ArenaCalls.{ValidArena}
use Rattle.model.specs.Erasing.{can_erase}
use Rattle.arena.specs.declared.Node.{Node}
use Rattle.erasing.specs.KeptLists.{Numbers}

-- an arena of `count` nodes, a set that question 11 accepts, and the new numbers
pub record NumberResult (bs set : List ℕ) (count : ℕ) (numbers : List ℕ) : Type 0 where
  pub opened : ValidArena bs
  pub some-node : 0 < count_in bs
  pub long : length set ≡ 1024
  pub accepted : can_erase (decode bs) set ≡ true
  pub counted : count ≡ count_in bs
  pub numbered : Numbers set count numbers

-- ---- The records

-- model/specs/Erasing.antt's `new_link`, by an array of new numbers
abbrev pub new_link_in : List ℕ → ℕ → ℕ → ℕ
new_link_in numbers count link = cond (ltb link count) (get_or numbers link 0) link

-- the record by value with these links
abbrev pub renumbered_in : List ℕ → ℕ → Node → Node
renumbered_in numbers count x = record {
  first_child = x.first_child;
  last_child = x.last_child;
  next_sibling = x.next_sibling;
  prim_count = x.prim_count;
  record_length = x.record_length;
  arc = x.arc;
  flags = x.flags;
  stack = x.stack;
  layer = x.layer;
  parent = record { 0 = new_link_in numbers count x.parent.0 };
  origin = record { 0 = new_link_in numbers count x.origin.0 };
  depth = x.depth;
  sibling = x.sibling;
  restriction = x.restriction;
  spec_from = x.spec_from;
  has_specs = x.has_specs;
}

-- the model's node with these links: its `renumbered`
abbrev pub node_renumbered : List ℕ → ℕ → model.Node → model.Node
node_renumbered numbers count x =
    model.changed x.flags (new_link_in numbers count x.parent) (new_link_in numbers count x.origin) x.path x

-- the record of node `from` in slot `to`
abbrev pub record_moved : List ℕ → ℕ → ℕ → ℕ → List ℕ → List ℕ
record_moved numbers count from to bs =
    stored (slot_at to + 16) (prim_count_in bs from ∷ record_bytes (node_renumbered numbers count (node_in bs from))) bs

-- the records of the first n nodes of a graph in their slots
abbrev pub sites_stored : Graph → ℕ → List ℕ → List ℕ
sites_stored g zero bs = bs
sites_stored g (suc n) bs = stored (slot_at n + 16) (site_bytes g n) (sites_stored g n bs)
