-- How the code's `NodeDesc` is document 01's (model/specs/Calls.antt), what its check answers, and
-- the record that it becomes.
use Rattle.std.specs.Prelude.{None, Option, Result, Some}
use Rattle.model.specs.declared.Refusal.{Refusal}
use Rattle.std.specs.Prelude.{◌≡◌, ◌&&◌, List, [], ◌∷◌, ℕ, ◌+◌, ◌<◌}
use Rattle.model.specs.Path.{well_formed, prim_count}
use Rattle.model.specs.Node.{invalid}
use Rattle.model.specs.Graph.{Graph, size}
use Rattle.model.specs.Refusals.{Question, ask, refusal, has_room, added_kind}
use Rattle.model.specs.Calls as calls
use Rattle.model.specs.Calls.{given_or, given_below, added_node}
use Rattle.model.specs.Answers.{node_option}
use Rattle.model.specs.Arena.{prim_count_in}
use Rattle.model.specs.declared.NodeId.{NodeId}
use Rattle.arena.specs.declared.Node.{Node}
use Rattle.validate.specs.RecordCheck.{checked_refusal, checked_prims}
use Rattle.nodes.specs.declared.description.NodeDesc.{NodeDesc}

-- ---- A node to be added

abbrev pub desc_of : NodeDesc → List ℕ → calls.NodeDesc
desc_of d path = record {
  fields = record {
    arc = d.arc;
    flags = d.flags;
    stack = d.stack;
    layer = d.layer;
    parent = 0;
    origin = 0;
    depth = 0;
    sibling = d.sibling;
    restriction = d.restriction;
    spec_from = d.spec_from;
    has_specs = d.has_specs;
    path = path;
  };
  parent = node_option d.parent;
  origin = node_option d.origin;
  depth = d.depth;
}

-- `add_child`'s questions 4 to 7, which are put where there is a node 0
abbrev pub add_questions : Graph → calls.NodeDesc → List Question
add_questions g d =
    ask 4 (given_below (size g) d.parent && given_below (size g) d.origin) ∷ ask 5 (well_formed d.fields.path) ∷ ask 6 (added_kind g (added_node g d)) ∷ ask 7 (has_room g (added_node g d)) ∷ []

-- the first no of them; an accepted node has its path's prim count
pub record DescChecked (g : Graph) (d : calls.NodeDesc) (r : Result ℕ Refusal) : Type 0 where
  pub refused : checked_refusal r ≡ refusal (add_questions g d)
  pub prims : checked_refusal r ≡ 0 → checked_prims r ≡ prim_count d.fields.path

-- ---- What is missing of it

-- a parent that is given has a slot
abbrev pub HasSlotIn : Option NodeId → Type 0
HasSlotIn (Some parent) = parent.0 < 1024
HasSlotIn None = Unit {0}

-- the depth that a missing one becomes, as the arena has it
abbrev pub prims_read : List ℕ → Option NodeId → ℕ → ℕ
prims_read bs (Some parent) prims = prim_count_in bs parent.0
prims_read bs None prims = prims

-- ---- The record

abbrev pub no_node : NodeId
no_node = record { 0 = invalid }

-- that of a node that is added to the graph in bs
abbrev pub added_record : List ℕ → NodeDesc → ℕ → ℕ → Node
added_record bs d prims path_length = record {
  first_child = no_node;
  last_child = no_node;
  next_sibling = no_node;
  prim_count = prims;
  record_length = 27 + path_length;
  arc = d.arc;
  flags = d.flags;
  stack = d.stack;
  layer = d.layer;
  parent = record { 0 = given_or (node_option d.parent) 0 };
  origin = record { 0 = given_or (node_option d.origin) (given_or (node_option d.parent) 0) };
  depth = given_or d.depth (prims_read bs d.parent prims);
  sibling = d.sibling;
  restriction = d.restriction;
  spec_from = d.spec_from;
  has_specs = d.has_specs;
}
