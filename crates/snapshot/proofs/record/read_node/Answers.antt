-- `read_node` meets its contract: no field is missing from so long a record, and those taken make
-- its node. Assumes nothing.
use mathlib.Core.Path.{refl, sym, ◌∙◌}
use Rattle.snapshot.proofs.FieldLaws.{taken}
use Rattle.snapshot.proofs.record.read_node.Goals as goal

pub returns : goal.returns
returns c =
    let body = c.args.body.now in record {
      prim_count = refl;
      record_length = refl;
      arc = (taken 0 1 body _ (sym c.take_u8.ensures ∙ c.in_ok-take_u8.was)).1;
      flags = (taken 1 1 body _ (sym c.take_u8-2.ensures ∙ c.in_ok-take_u8-2.was)).1;
      stack = (taken 2 4 body _ (sym c.take_u32.ensures ∙ c.in_ok-take_u32.was)).1;
      layer = (taken 6 4 body _ (sym c.take_u32-2.ensures ∙ c.in_ok-take_u32-2.was)).1;
      parent = (taken 10 4 body _ (sym c.take_u32-3.ensures ∙ c.in_ok-take_u32-3.was)).1;
      origin = (taken 14 4 body _ (sym c.take_u32-4.ensures ∙ c.in_ok-take_u32-4.was)).1;
      depth = (taken 18 2 body _ (sym c.take_u16.ensures ∙ c.in_ok-take_u16.was)).1;
      sibling = (taken 20 2 body _ (sym c.take_u16-2.ensures ∙ c.in_ok-take_u16-2.was)).1;
      restriction = (taken 22 2 body _ (sym c.take_u16-3.ensures ∙ c.in_ok-take_u16-3.was)).1;
      spec_from = (taken 24 2 body _ (sym c.take_u16-4.ensures ∙ c.in_ok-take_u16-4.was)).1;
      has_specs = (taken 26 1 body _ (sym c.take_u8-3.ensures ∙ c.in_ok-take_u8-3.was)).1;
    }
