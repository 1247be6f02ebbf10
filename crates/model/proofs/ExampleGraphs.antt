-- The graphs of the examples, built by calls. Assumes nothing.
use Rattle.std.specs.Prelude.{None, Option, Some}
use Prim.Native.Nat.{ℕ}
use Prim.Native.String.{String}
use mathlib.Core.List.{List, [], ◌∷◌}
use Rattle.model.proofs.Text.{bytes}
use Rattle.std.specs.declared.cmp.Ordering.{Ordering}
use Rattle.model.specs.Node.{invalid, optional, Node}
use Rattle.model.specs.Graph.{Graph, empty_graph}
use Rattle.model.specs.Strength.{view_of, compare_sibling_node_strength, compare_node_strength}
use Rattle.model.specs.Calls.{root_node, Call, starting, adding, calls}

-- a node of layer 0 that restricts nothing
abbrev pub sample_node : ℕ → ℕ → ℕ → ℕ → ℕ → ℕ → ℕ → ℕ → List ℕ → Node
sample_node parent arc flags stack origin depth sibling has_specs path = record {
  arc = arc;
  flags = flags;
  stack = stack;
  layer = 0;
  parent = parent;
  origin = origin;
  depth = depth;
  sibling = sibling;
  restriction = 0;
  spec_from = 0;
  has_specs = has_specs;
  path = path;
}

-- adding one with specs; `invalid` for a missing parent or origin
abbrev pub add : ℕ → ℕ → ℕ → ℕ → ℕ → Option ℕ → ℕ → String → Call
add parent arc flags stack origin depth sibling path =
    adding (record {
      fields = sample_node 0 arc flags stack 0 0 sibling 1 (bytes path);
      parent = optional parent;
      origin = optional origin;
      depth = depth;
    })

-- with origin, depth and sibling number missing or 0
abbrev pub plain : ℕ → ℕ → String → Call
plain parent arc path = add parent arc 0 0 invalid None 0 path

abbrev pub from : List Call → Graph
from cs = calls cs empty_graph

abbrev pub node : List Call → ℕ → ℕ → Ordering
node cs a b = compare_node_strength (view_of (from cs)) a b

abbrev pub siblings : List Call → ℕ → ℕ → Ordering
siblings cs a b = compare_sibling_node_strength (view_of (from cs)) a b

-- node 0 `/M` and the local root
abbrev pub line : List Call → List Call
line cs = starting 0 0 (bytes "/M") ∷ plain invalid 0 "/M" ∷ cs

-- "Nodes 0 `/M`, 1 root site Root `/M`, 2 Reference `/R` and 3 Inherit `/C` under 1"
abbrev pub four : List Call
four = line (plain 1 4 "/R" ∷ plain 1 1 "/C" ∷ [])

-- "The ring: under 1, Reference 2 `/R`, then three Specialize: 3 `/S` and 4 `/T`, origin 2,
-- HAS_SPECIALIZES, depths 1 and 3; 5 `/U`, no origin, unflagged, depth 2"
abbrev pub ring : List Call
ring =
    line (plain 1 4 "/R" ∷ add 1 6 8 0 2 (Some 1) 0 "/S" ∷ add 1 6 8 0 2 (Some 3) 0 "/T" ∷ add 1 6 0 0 invalid (Some 2) 0 "/U" ∷ [])

-- "Parent `/M/a`, depth 1 gives 1; depth 3 gives 0"
abbrev pub deep : List Call
deep = starting 0 0 (bytes "/M/a") ∷ add 0 4 0 0 invalid (Some 1) 0 "/A" ∷ add 0 4 0 0 invalid (Some 3) 0 "/A" ∷ []

-- 2 and 3 have one origin, 1's; 3 is implied, since its site is not its origin's
abbrev pub one_origin : List Call
one_origin = line (plain 1 1 "/S" ∷ add 1 6 8 0 2 (Some 1) 0 "/S" ∷ add 1 6 8 0 2 (Some 1) 0 "/T" ∷ [])

-- where a port goes astray, the smallest graph that tells: two Specialize, the second from the
-- first, with the larger class depth
abbrev pub class_depths : List Call
class_depths = line (add 1 6 8 0 1 (Some 1) 1 "/M" ∷ add 1 6 8 1 2 (Some 2) 0 "/T" ∷ [])

-- R has another depth than its node
abbrev pub root_depths : List Call
root_depths = line (add 1 1 8 0 1 (Some 0) 0 "/M/a" ∷ add 1 6 8 0 1 (Some 1) 0 "/M/a" ∷ add 1 6 8 0 2 (Some 1) 0 "/T" ∷ [])

-- one origin, both implied, sibling numbers against node numbers
abbrev pub sibling_numbers : List Call
sibling_numbers = line (add 1 6 8 1 1 (Some 2) 0 "/T" ∷ add 1 6 8 0 2 (Some 1) 1 "/T" ∷ add 1 6 8 0 2 (Some 1) 0 "/M" ∷ [])

-- the parent of an origin is propagated, and its origin too
abbrev pub replaced_once : List Call
replaced_once =
    line (add 1 1 8 0 1 (Some 0) 0 "/S" ∷ add 1 6 8 0 2 (Some 2) 0 "/S" ∷ add 1 6 8 0 3 (Some 0) 0 "/S" ∷ add 4 6 8 0 2 (Some 0) 0 "/S"
    ∷ add 1 6 8 0 5 (Some 2) 0 "/T/b" ∷ [])

-- a parent that is shallow
abbrev pub shallow : List Call
shallow = line (add 1 4 0 0 invalid (Some 2) 0 "/A" ∷ [])

-- a record as a snapshot brings it, CULLED or not, under `/M/a` and without specs
abbrev pub found : ℕ → ℕ → Node
found flags origin = sample_node 0 4 flags 0 origin 0 0 0 (bytes "/A")

-- 1 and 2 are marked; 3 is not, and 1 is its origin
abbrev pub marked_origin : List Node
marked_origin = root_node 0 0 (bytes "/M/a") ∷ found 2 0 ∷ found 2 0 ∷ found 0 1 ∷ []
