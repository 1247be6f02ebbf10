-- What the Rust sets of one node after it was added, for which document 01 has no sentence: flags,
-- the first layer with a spec, and the restriction depth. The Rust's functions are `mark`,
-- `set_first_spec`, `set_has_specs` and `set_restriction_depth`.
use Rattle.std.specs.Prelude.{None, Option, Some}
use Rattle.std.specs.Prelude.{Bool, not, ◌&&◌, cond, ℕ, eqb, ltb, set}
use Rattle.model.specs.Node.{root_arc, inert_flag, culled_flag, prohibited_children_flag, has_flag, with_flag, Node}
use Rattle.model.specs.Graph.{Graph}

-- ---- One node

-- the node with other flags, restriction depth, spec_from and has-specs
abbrev pub with_site : ℕ → ℕ → ℕ → ℕ → Node → Node
with_site flags restriction spec_from has_specs x = record {
  arc = x.arc;
  flags = flags;
  stack = x.stack;
  layer = x.layer;
  parent = x.parent;
  origin = x.origin;
  depth = x.depth;
  sibling = x.sibling;
  restriction = restriction;
  spec_from = spec_from;
  has_specs = has_specs;
  path = x.path;
}

-- the flags with one of them set if it is given
abbrev pub with_given : ℕ → ℕ → ℕ → ℕ
with_given flag given flags = cond (has_flag flag given) (with_flag flag flags) flags

-- `mark` joins the given flags with the node's by or
abbrev pub with_flags : ℕ → ℕ → ℕ
with_flags given flags = with_given prohibited_children_flag given (with_given culled_flag given (with_given inert_flag given flags))

abbrev pub marked : ℕ → Node → Node
marked flags x = with_site (with_flags flags x.flags) x.restriction x.spec_from x.has_specs x

-- question 6 of `mark`, by the flags and the node's arc: only INERT, CULLED and PROHIBITED_CHILDREN
-- may be given, and "CULLED is allowed unless the arc is Root"
abbrev pub may_mark : ℕ → ℕ → Bool
may_mark flags arc = ltb flags 8 && not (eqb arc root_arc && has_flag culled_flag flags)

-- "the position in the node's stack of the strongest layer that authors a spec at its path, `None`
-- when no layer does"
abbrev pub with_first_spec : Option ℕ → Node → Node
with_first_spec None x = with_site x.flags x.restriction 0 0 x
with_first_spec (Some first) x = with_site x.flags x.restriction first 1 x

abbrev pub restricted_at : ℕ → Node → Node
restricted_at depth x = with_site x.flags depth x.spec_from x.has_specs x

-- ---- The graph

-- the graph with another record for node n; child lists, order and marks stay
unfoldable pub with_record : Graph → ℕ → Node → Graph
with_record g n x = record {
  nodes = set g.nodes n x;
  children = g.children;
  order = g.order;
  ordered = g.ordered;
  finalized = g.finalized;
  shallow = g.shallow;
}
