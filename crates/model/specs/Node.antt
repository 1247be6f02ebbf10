-- Document 01, "Node and site": the fields of a node, its arcs and flags, and its site.
use Rattle.std.specs.Prelude.{None, Option, Some}
use Rattle.std.specs.Prelude.{Bool, ◌&&◌, cond, List, [], ℕ, ◌+◌, ◌/◌, ◌%◌, eqb}
use Rattle.model.specs.Path.{same_path}

-- "No node is the number 4,294,967,295 (`NodeId::INVALID`)": in a record it stands for a missing
-- parent or origin
abbrev pub invalid : ℕ
invalid = 4294967295

-- the node of that number, or that there is none
abbrev pub optional : ℕ → Option ℕ
optional n = cond (eqb n invalid) None (Some n)

-- "arc 0 to 6 (Root, Inherit, Variant, Relocate, Reference, Payload, Specialize)"
abbrev pub root_arc : ℕ
root_arc = 0

abbrev pub inherit_arc : ℕ
inherit_arc = 1

abbrev pub variant_arc : ℕ
variant_arc = 2

abbrev pub relocate_arc : ℕ
relocate_arc = 3

abbrev pub reference_arc : ℕ
reference_arc = 4

abbrev pub payload_arc : ℕ
payload_arc = 5

abbrev pub specialize_arc : ℕ
specialize_arc = 6

-- "flags in 8 bits (INERT 1, CULLED 2, PROHIBITED_CHILDREN 4, HAS_SPECIALIZES 8, by our choice;
-- higher bits are kept and given back unread)"
abbrev pub has_flag : ℕ → ℕ → Bool
has_flag flag flags = eqb (flags / flag % 2) 1

abbrev pub inert_flag : ℕ
inert_flag = 1

abbrev pub culled_flag : ℕ
culled_flag = 2

abbrev pub prohibited_children_flag : ℕ
prohibited_children_flag = 4

abbrev pub has_specializes_flag : ℕ
has_specializes_flag = 8

-- the flags with one of them set
abbrev pub with_flag : ℕ → ℕ → ℕ
with_flag flag flags = cond (has_flag flag flags) flags (flags + flag)

-- "stack, layer, parent, origin (32 bits each); namespace depth, sibling number, restriction depth,
-- spec_from (16 bits each); has-specs yes or no; path". Has-specs is 1 or 0. The links to first
-- child, last child and next sibling are how an arena writes the child lists.
pub record Node : Type 0 where
  pub arc : ℕ
  pub flags : ℕ
  pub stack : ℕ
  pub layer : ℕ
  pub parent : ℕ
  pub origin : ℕ
  pub depth : ℕ
  pub sibling : ℕ
  pub restriction : ℕ
  pub spec_from : ℕ
  pub has_specs : ℕ
  pub path : List ℕ

-- the node with other flags, parent, origin and path: what culling, erasing and deepening change
abbrev pub changed : ℕ → ℕ → ℕ → List ℕ → Node → Node
changed flags parent origin path x = record {
  arc = x.arc;
  flags = flags;
  stack = x.stack;
  layer = x.layer;
  parent = parent;
  origin = origin;
  depth = x.depth;
  sibling = x.sibling;
  restriction = x.restriction;
  spec_from = x.spec_from;
  has_specs = x.has_specs;
  path = path;
}

-- what stands where there is no node: 7 is no arc
abbrev pub no_node : Node
no_node = record {
  arc = 7;
  flags = 0;
  stack = 0;
  layer = 0;
  parent = 0;
  origin = 0;
  depth = 0;
  sibling = 0;
  restriction = 0;
  spec_from = 0;
  has_specs = 0;
  path = [];
}

abbrev pub is_inert : Node → Bool
is_inert x = has_flag inert_flag x.flags

abbrev pub is_culled : Node → Bool
is_culled x = has_flag culled_flag x.flags

abbrev pub has_specializes : Node → Bool
has_specializes x = has_flag has_specializes_flag x.flags

-- "A site is stack and path"
unfoldable pub same_site : Node → Node → Bool
same_site x y = eqb x.stack y.stack && same_path x.path y.path
