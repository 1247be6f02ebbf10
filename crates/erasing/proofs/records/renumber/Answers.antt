-- `renumber` meets its contract: both links by `new_link`. Assumes nothing.
use Rattle.erasing.proofs.records.renumber.Goals as goal

pub returns : goal.returns
returns c =
    let x = c.args.node in
    λ i. record {
      first_child = x.first_child;
      last_child = x.last_child;
      next_sibling = x.next_sibling;
      prim_count = x.prim_count;
      record_length = x.record_length;
      arc = x.arc;
      flags = x.flags;
      stack = x.stack;
      layer = x.layer;
      parent = record { 0 = c.new_link.ensures i };
      origin = record { 0 = c.new_link-2.ensures i };
      depth = x.depth;
      sibling = x.sibling;
      restriction = x.restriction;
      spec_from = x.spec_from;
      has_specs = x.has_specs;
    }
