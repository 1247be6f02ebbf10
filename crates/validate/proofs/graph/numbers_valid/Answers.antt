-- `numbers_valid` meets its contract: links, kind and room, put to the fields read. Assumes
-- nothing.
use mathlib.Core.Path.{◌≡◌, sym, ap, ◌∙◌}
use mathlib.Core.Bool.{Bool, ◌&&◌}
use Prim.Native.Nat.{◌+◌, ◌-◌}
use lib.Dec.{leb}
use borrow.Author.Tests.{not-true, not-false, lt-ltb}
use Rattle.model.specs.Arena.{record_length_in}
use Rattle.validate.specs.declared.record.RecordNumbers.{RecordNumbers}
use Rattle.validate.specs.RecordCheck.{links_at, kind_at}
use Rattle.validate.specs.Validate.{numbers_in}
use Rattle.validate.proofs.ArenaRecords.{links, kind, links-wrong, kind-wrong, room-left}
use Rattle.validate.proofs.graph.numbers_valid.Goals as goal

pub returns-then-not-links_allowed : goal.returns-then-not-links_allowed
returns-then-not-links_allowed c =
    let numbers : RecordNumbers =
    record {
      arc = c.args.arc;
      flags = c.flags.result;
      parent = c.args.parent;
      origin = c.origin.result;
      has_specs = c.has_specs.result;
    } in
    let read : numbers ≡ numbers_in c.args.arena.now c.args.before.count =
    λ i. record {
      arc = c.requires.arc_value.0 i;
      flags = c.flags.ensures i;
      parent = c.requires.arc_value.1 i;
      origin = c.origin.ensures i;
      has_specs = c.has_specs.ensures i;
    } in
    let linked : c.links_allowed.result ≡ links c.args.arena.now c.args.before =
    c.links_allowed.ensures ∙ ap (links_at c.args.before) read in
    sym (links-wrong c.args.arena.now c.args.before (sym linked ∙ not-true _ c.if-not-links_allowed.true-raw))

pub returns-then-not-kind_allowed : goal.returns-then-not-kind_allowed
returns-then-not-kind_allowed c =
    let numbers : RecordNumbers =
    record {
      arc = c.args.arc;
      flags = c.flags.result;
      parent = c.args.parent;
      origin = c.origin.result;
      has_specs = c.has_specs.result;
    } in
    let read : numbers ≡ numbers_in c.args.arena.now c.args.before.count =
    λ i. record {
      arc = c.requires.arc_value.0 i;
      flags = c.flags.ensures i;
      parent = c.requires.arc_value.1 i;
      origin = c.origin.ensures i;
      has_specs = c.has_specs.ensures i;
    } in
    let linked : c.links_allowed.result ≡ links c.args.arena.now c.args.before =
    c.links_allowed.ensures ∙ ap (links_at c.args.before) read in
    let allowed : c.kind_allowed.result ≡ kind c.args.arena.now c.args.before =
    c.kind_allowed.ensures ∙ ap (kind_at c.args.before) read in
    sym (kind-wrong c.args.arena.now c.args.before (sym linked ∙ not-false _ c.if-not-links_allowed.false-raw) (sym allowed ∙ not-true _ c.if-not-kind_allowed.true-raw))

pub returns : goal.returns
returns c =
    let numbers : RecordNumbers =
    record {
      arc = c.args.arc;
      flags = c.flags.result;
      parent = c.args.parent;
      origin = c.origin.result;
      has_specs = c.has_specs.result;
    } in
    let read : numbers ≡ numbers_in c.args.arena.now c.args.before.count =
    λ i. record {
      arc = c.requires.arc_value.0 i;
      flags = c.flags.ensures i;
      parent = c.requires.arc_value.1 i;
      origin = c.origin.ensures i;
      has_specs = c.has_specs.ensures i;
    } in
    let linked : c.links_allowed.result ≡ links c.args.arena.now c.args.before =
    c.links_allowed.ensures ∙ ap (links_at c.args.before) read in
    let allowed : c.kind_allowed.result ≡ kind c.args.arena.now c.args.before =
    c.kind_allowed.ensures ∙ ap (kind_at c.args.before) read in
    let bs = c.args.arena.now in
    let b = c.args.before in
    (λ i. leb (b.path_bytes + (c.requires.has_slot.1 i - 27)) 32768)
    ∙ ap (λ (t : Bool). t && leb (b.path_bytes + (record_length_in bs b.count - 27)) 32768) (sym (lt-ltb b.count 1024 c.requires.has_slot.0.within))
    ∙ sym (room-left bs b (sym linked ∙ not-false _ c.if-not-links_allowed.false-raw) (sym allowed ∙ not-false _ c.if-not-kind_allowed.false-raw))
