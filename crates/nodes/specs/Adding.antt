-- The record of node 0. That of a node that is added is Describing.antt's.
use Rattle.std.specs.Prelude.{ℕ, ◌+◌}
use Rattle.model.specs.Node.{root_arc, inert_flag}
use Rattle.arena.specs.declared.Node.{Node}
use Rattle.nodes.specs.Describing.{no_node}

abbrev pub start_record : ℕ → ℕ → ℕ → ℕ → Node
start_record stack layer prims path_length = record {
  first_child = no_node;
  last_child = no_node;
  next_sibling = no_node;
  prim_count = prims;
  record_length = 27 + path_length;
  arc = root_arc;
  flags = inert_flag;
  stack = stack;
  layer = layer;
  parent = no_node;
  origin = no_node;
  depth = prims;
  sibling = 0;
  restriction = 0;
  spec_from = 0;
  has_specs = 1;
}
