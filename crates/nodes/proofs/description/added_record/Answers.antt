-- `added_record` meets its contract: what was missing is put in. Assumes nothing.
use mathlib.Core.Path.{ap, ◌∙◌}
use Rattle.model.specs.Answers.{node_option}
use Rattle.model.specs.Calls.{given_or}
use Rattle.nodes.specs.Describing.{added_record}
use Rattle.nodes.proofs.description.added_record.Goals as goal

pub returns : goal.returns
returns c =
    let d = c.args.desc in
    let parent = c.node_or-parent.ensures in
    let origin = c.node_or.ensures ∙ ap (given_or (node_option d.origin)) parent in
    let depth = c.depth_or.ensures ∙ ap (given_or d.depth) c.default_depth-default.ensures in
    let rest = added_record c.args.arena.now d c.args.prims c.args.path_length in
    λ i. record {
      first_child = rest.first_child;
      last_child = rest.last_child;
      next_sibling = rest.next_sibling;
      prim_count = rest.prim_count;
      record_length = rest.record_length;
      arc = d.arc;
      flags = d.flags;
      stack = d.stack;
      layer = d.layer;
      parent = record { 0 = parent i };
      origin = record { 0 = origin i };
      depth = depth i;
      sibling = d.sibling;
      restriction = d.restriction;
      spec_from = d.spec_from;
      has_specs = d.has_specs;
    }
