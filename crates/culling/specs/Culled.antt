-- What culling leaves of an arena, and what its parts decide.
use Rattle.std.specs.Prelude.{◌≡◌, Bool, not, ◌||◌, ◌&&◌, List, ℕ, zero, suc, ◌≤◌, ◌<◌, eqb, get_or}
use Rattle.model.specs.Node.{Node, root_arc, is_inert, is_culled}
use Rattle.model.specs.Graph.{node_at, depth_below_introduction}
use Rattle.model.specs.Arena.{count_in, local_root_in, decode, encode}
use Rattle.model.specs.ArenaCalls.{ValidArena}
use Rattle.model.specs.Culling.{keeps_inherit, cull_subtrees_without_opinions}
use Rattle.arena.specs.Slot.{flags_stored}

-- the arena with the flags of the culled graph, and nothing else changed
abbrev pub CulledArena : List ℕ → List ℕ → Type 0
CulledArena before after = after ≡ encode (cull_subtrees_without_opinions (decode before)) before

-- the arena holds a graph with `count` nodes, one or more, whose local root is `root`
pub record Rooted (bs : List ℕ) (count root : ℕ) : Type 0 where
  pub opened : ValidArena bs
  pub counted : count ≡ count_in bs
  pub some-node : 0 < count
  pub root-read : root ≡ local_root_in bs
  pub some-root : root ≡ 0 → ⊥

-- ---- One node

-- what keeps a node that is not culled yet, whatever its children do
unfoldable pub is_kept : List Node → ℕ → Bool
is_kept ns n =
    eqb (node_at ns n).arc root_arc
    || (eqb (depth_below_introduction ns n) 0 || (keeps_inherit ns n || (eqb (node_at ns n).has_specs 1 && not (is_inert (node_at ns n)))))

-- `can_cull`, where it is known whether a child is unculled
unfoldable pub can_cull_under : Bool → List Node → ℕ → Bool
can_cull_under unculled ns n = is_culled (node_at ns n) || (not (is_kept ns n) && not unculled)

-- ---- All nodes

-- the flags of node n of the culled graph
abbrev pub flags_left : List ℕ → ℕ → ℕ
flags_left bs n = (node_at (cull_subtrees_without_opinions (decode bs)).nodes n).flags

-- the list has them from node n on
abbrev pub HasFlagsFrom : List ℕ → ℕ → List ℕ → Type 0
HasFlagsFrom bs n flags = (k : ℕ) → n ≤ k → k < count_in bs → get_or flags k 0 ≡ flags_left bs k

abbrev pub Clear : List ℕ → Type 0
Clear xs = (k : ℕ) → get_or xs k 0 ≡ 0

-- the flags of the first n nodes stored
abbrev pub flags_written : List ℕ → ℕ → List ℕ → List ℕ
flags_written flags zero bs = bs
flags_written flags (suc n) bs = flags_stored n (get_or flags n 0) (flags_written flags n bs)
