-- A node's slot by names: the fields of its record, each where it lies, whatever the record's
-- length; the record by value; and what a store leaves. The layout and the slot's other fields are
-- in model/specs/Arena.antt. Its `node_in` reads the record only as far as its length goes: where
-- that is 27 or more the two agree (proofs/SlotLaws.antt).
use Rattle.std.specs.Prelude.{◌≡◌, List, ◌∷◌, ◌++◌, ℕ, ◌+◌, ◌≤◌, ◌<◌, length}
use Rattle.model.specs.Arena.{arena_bytes, slot_at, first_child_in, last_child_in, next_sibling_in, prim_count_in, record_length_in}
use Rattle.model.specs.Bytes.{stored}
use Rattle.model.specs.Node as model
use Rattle.model.specs.Snapshot.{big_endian, field, record_bytes}
use Rattle.model.specs.declared.NodeId.{NodeId}
use Rattle.arena.specs.declared.Node.{Node}

-- the bytes are a whole arena's, and n has a slot there
pub record HasSlot (bs : List ℕ) (n : ℕ) : Type 0 where
  pub whole : length bs ≡ arena_bytes
  pub within : n < 1024

-- and the record there is at least as long as its numbers and at most as long as a record may be
pub record HasPath (bs : List ℕ) (n : ℕ) : Type 0 where
  pub slot : HasSlot bs n
  pub numbered : 27 ≤ record_length_in bs n
  pub short : record_length_in bs n ≤ 282

-- ---- The fields of the record in slot n

abbrev pub arc_in : List ℕ → ℕ → ℕ
arc_in bs n = field (slot_at n + 19) 1 bs

abbrev pub flags_in : List ℕ → ℕ → ℕ
flags_in bs n = field (slot_at n + 20) 1 bs

abbrev pub stack_in : List ℕ → ℕ → ℕ
stack_in bs n = field (slot_at n + 21) 4 bs

abbrev pub layer_in : List ℕ → ℕ → ℕ
layer_in bs n = field (slot_at n + 25) 4 bs

abbrev pub parent_in : List ℕ → ℕ → ℕ
parent_in bs n = field (slot_at n + 29) 4 bs

abbrev pub origin_in : List ℕ → ℕ → ℕ
origin_in bs n = field (slot_at n + 33) 4 bs

abbrev pub depth_in : List ℕ → ℕ → ℕ
depth_in bs n = field (slot_at n + 37) 2 bs

abbrev pub sibling_in : List ℕ → ℕ → ℕ
sibling_in bs n = field (slot_at n + 39) 2 bs

abbrev pub restriction_in : List ℕ → ℕ → ℕ
restriction_in bs n = field (slot_at n + 41) 2 bs

abbrev pub spec_from_in : List ℕ → ℕ → ℕ
spec_from_in bs n = field (slot_at n + 43) 2 bs

abbrev pub has_specs_in : List ℕ → ℕ → ℕ
has_specs_in bs n = field (slot_at n + 45) 1 bs

-- ---- The record by value

-- x has the links, counts and numbers of node n
pub record Loaded (bs : List ℕ) (n : ℕ) (x : Node) : Type 0 where
  pub first_child : x.first_child.0 ≡ first_child_in bs n
  pub last_child : x.last_child.0 ≡ last_child_in bs n
  pub next_sibling : x.next_sibling.0 ≡ next_sibling_in bs n
  pub prim_count : x.prim_count ≡ prim_count_in bs n
  pub record_length : x.record_length ≡ record_length_in bs n
  pub arc : x.arc ≡ arc_in bs n
  pub flags : x.flags ≡ flags_in bs n
  pub stack : x.stack ≡ stack_in bs n
  pub layer : x.layer ≡ layer_in bs n
  pub parent : x.parent.0 ≡ parent_in bs n
  pub origin : x.origin.0 ≡ origin_in bs n
  pub depth : x.depth ≡ depth_in bs n
  pub sibling : x.sibling ≡ sibling_in bs n
  pub restriction : x.restriction ≡ restriction_in bs n
  pub spec_from : x.spec_from ≡ spec_from_in bs n
  pub has_specs : x.has_specs ≡ has_specs_in bs n

-- the model's node: a record and a path
abbrev pub node_of : Node → List ℕ → model.Node
node_of x path = record {
  arc = x.arc;
  flags = x.flags;
  stack = x.stack;
  layer = x.layer;
  parent = x.parent.0;
  origin = x.origin.0;
  depth = x.depth;
  sibling = x.sibling;
  restriction = x.restriction;
  spec_from = x.spec_from;
  has_specs = x.has_specs;
  path = path;
}

-- ---- "A node record with one link changed is a new node record": other links, the rest as it was

abbrev with_links : NodeId → NodeId → NodeId → Node → Node
with_links first last next x = record {
  first_child = first;
  last_child = last;
  next_sibling = next;
  prim_count = x.prim_count;
  record_length = x.record_length;
  arc = x.arc;
  flags = x.flags;
  stack = x.stack;
  layer = x.layer;
  parent = x.parent;
  origin = x.origin;
  depth = x.depth;
  sibling = x.sibling;
  restriction = x.restriction;
  spec_from = x.spec_from;
  has_specs = x.has_specs;
}

abbrev pub with_first_child : NodeId → Node → Node
with_first_child id x = with_links id x.last_child x.next_sibling x

abbrev pub with_last_child : NodeId → Node → Node
with_last_child id x = with_links x.first_child id x.next_sibling x

abbrev pub with_next_sibling : NodeId → Node → Node
with_next_sibling id x = with_links x.first_child x.last_child id x

-- ---- What a store to slot n leaves

-- the links, as model/specs/Arena.antt's `link_bytes` has them
abbrev pub links_stored : ℕ → Node → List ℕ → List ℕ
links_stored n x bs =
    stored (slot_at n) (big_endian 4 x.first_child.0 ++ (big_endian 4 x.last_child.0 ++ big_endian 4 x.next_sibling.0)) bs

-- the prim count and the record, length first, as its `site_bytes` has them
abbrev pub record_stored : ℕ → Node → List ℕ → List ℕ → List ℕ
record_stored n x path bs = stored (slot_at n + 16) (x.prim_count ∷ record_bytes (node_of x path)) bs

-- parts of these bytes: up to the flags, the four numbers of 32 bits, and those of 16
abbrev pub head_bytes : ℕ → Node → List ℕ
head_bytes prim_count x = prim_count ∷ (big_endian 2 x.record_length ++ (big_endian 1 x.arc ++ big_endian 1 x.flags))

abbrev pub id_bytes : Node → List ℕ
id_bytes x = big_endian 4 x.stack ++ (big_endian 4 x.layer ++ (big_endian 4 x.parent.0 ++ big_endian 4 x.origin.0))

abbrev pub depth_bytes : Node → List ℕ
depth_bytes x = big_endian 2 x.depth ++ (big_endian 2 x.sibling ++ (big_endian 2 x.restriction ++ big_endian 2 x.spec_from))

abbrev pub order_entry_stored : ℕ → ℕ → List ℕ → List ℕ
order_entry_stored n entry bs = stored (slot_at n + 12) (big_endian 4 entry) bs

abbrev pub flags_stored : ℕ → ℕ → List ℕ → List ℕ
flags_stored n flags bs = stored (slot_at n + 20) (big_endian 1 flags) bs

abbrev pub restriction_stored : ℕ → ℕ → List ℕ → List ℕ
restriction_stored n depth bs = stored (slot_at n + 41) (big_endian 2 depth) bs

abbrev pub specs_stored : ℕ → ℕ → ℕ → List ℕ → List ℕ
specs_stored n spec_from has_specs bs = stored (slot_at n + 43) (big_endian 2 spec_from ++ big_endian 1 has_specs) bs
