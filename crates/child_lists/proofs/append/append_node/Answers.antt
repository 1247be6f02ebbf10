-- `append_node` meets its contract: its stores are those of `encode-append`. The numbers of the
-- node fit their widths because their types say so. Assumes nothing.
use mathlib.Core.Path.{◌≡◌, sym, ap, subst, ◌∙◌}
use mathlib.Core.Bool.{Bool}
use mathlib.Core.List.{List}
use Prim.Native.Nat.{ℕ}
use native.Mathlib.Omega.{arith}
use Rattle.model.specs.Node.{invalid}
use Rattle.laws.proofs.BigEndianLaws.{Bytes}
use Rattle.laws.proofs.StoredLaws.{bytes-by-place}
use Rattle.arena.specs.Slot.{node_of, record_stored}
use Rattle.child_lists.specs.Append.{CanLink, shallow_with, header_stored, three_links, child_linked}
use Rattle.child_lists.proofs.AppendEncodable.{NumbersFit}
use Rattle.child_lists.proofs.EncodeAppend.{encode-append, count-below, parent-below, path-short, can-link}
use Rattle.child_lists.proofs.append.append_node.Goals as goal

-- ---- The needs
pub is_shallow-shallow-requires : goal.is_shallow-shallow-requires
is_shallow-shallow-requires c =
    let arena-bytes : Bytes c.args.arena.now =
    bytes-by-place c.args.arena.now (λ k. (c.slice_known-1.given k).fits) in
    let numbers : NumbersFit (node_of c.args.node c.args.path.now) =
    let fields = c.well_formed.1.1.0.1.1 in
    record {
      flags = omega (arith, fields);
      stack = omega (arith, fields);
      layer = omega (arith, fields);
      depth = omega (arith, fields);
      sibling = omega (arith, fields);
      restriction = omega (arith, fields);
      spec_from = omega (arith, fields);
      path_bytes = bytes-by-place c.args.path.now (λ k. (c.type_inv.path k).fits);
    } in record { arena_len = c.requires.opened.whole; parent_bound = parent-below c.args.arena.now c.args.count c.args.node c.args.path.now c.requires arena-bytes numbers }

pub store_header-requires : goal.store_header-requires
store_header-requires c =
    let arena-bytes : Bytes c.args.arena.now =
    bytes-by-place c.args.arena.now (λ k. (c.slice_known-1.given k).fits) in
    let numbers : NumbersFit (node_of c.args.node c.args.path.now) =
    let fields = c.well_formed.1.1.0.1.1 in
    record {
      flags = omega (arith, fields);
      stack = omega (arith, fields);
      layer = omega (arith, fields);
      depth = omega (arith, fields);
      sibling = omega (arith, fields);
      restriction = omega (arith, fields);
      spec_from = omega (arith, fields);
      path_bytes = bytes-by-place c.args.path.now (λ k. (c.type_inv.path k).fits);
    } in record { arena_len = c.requires.opened.whole; n_bound = count-below c.args.arena.now c.args.count c.args.node c.args.path.now c.requires arena-bytes numbers }

pub link_child-requires : goal.link_child-requires
link_child-requires c =
    let arena-bytes : Bytes c.args.arena.now =
    bytes-by-place c.args.arena.now (λ k. (c.slice_known-1.given k).fits) in
    let numbers : NumbersFit (node_of c.args.node c.args.path.now) =
    let fields = c.well_formed.1.1.0.1.1 in
    record {
      flags = omega (arith, fields);
      stack = omega (arith, fields);
      layer = omega (arith, fields);
      depth = omega (arith, fields);
      sibling = omega (arith, fields);
      restriction = omega (arith, fields);
      spec_from = omega (arith, fields);
      path_bytes = bytes-by-place c.args.path.now (λ k. (c.type_inv.path k).fits);
    } in
    let headed : c.store_header.new.arena
    ≡ header_stored c.args.count c.args.node.arc (shallow_with c.args.count c.args.node.parent.0 c.args.node.depth c.args.arena.now) c.args.arena.now =
    c.store_header.ensures ∙ ap (λ (t : Bool). header_stored c.args.count c.args.node.arc t c.args.arena.now) c.is_shallow-shallow.ensures in
    subst (λ (l : List ℕ). CanLink l c.args.node.parent.0 c.args.count) (sym headed)
    (can-link c.args.arena.now c.args.count c.args.node c.args.path.now c.requires arena-bytes numbers)

pub store_node-requires : goal.store_node-requires
store_node-requires c =
    let arena-bytes : Bytes c.args.arena.now =
    bytes-by-place c.args.arena.now (λ k. (c.slice_known-1.given k).fits) in
    let numbers : NumbersFit (node_of c.args.node c.args.path.now) =
    let fields = c.well_formed.1.1.0.1.1 in
    record {
      flags = omega (arith, fields);
      stack = omega (arith, fields);
      layer = omega (arith, fields);
      depth = omega (arith, fields);
      sibling = omega (arith, fields);
      restriction = omega (arith, fields);
      spec_from = omega (arith, fields);
      path_bytes = bytes-by-place c.args.path.now (λ k. (c.type_inv.path k).fits);
    } in record {
      has_slot = record {
        whole = c.link_child.auto.arena ∙ c.store_header.auto.arena ∙ c.requires.opened.whole;
        within = count-below c.args.arena.now c.args.count c.args.node c.args.path.now c.requires arena-bytes numbers;
      };
      record_length_value = (c.requires.long, path-short c.args.arena.now c.args.count c.args.node c.args.path.now c.requires arena-bytes numbers);
    }

pub returns : goal.returns
returns c =
    let arena-bytes : Bytes c.args.arena.now =
    bytes-by-place c.args.arena.now (λ k. (c.slice_known-1.given k).fits) in
    let numbers : NumbersFit (node_of c.args.node c.args.path.now) =
    let fields = c.well_formed.1.1.0.1.1 in
    record {
      flags = omega (arith, fields);
      stack = omega (arith, fields);
      layer = omega (arith, fields);
      depth = omega (arith, fields);
      sibling = omega (arith, fields);
      restriction = omega (arith, fields);
      spec_from = omega (arith, fields);
      path_bytes = bytes-by-place c.args.path.now (λ k. (c.type_inv.path k).fits);
    } in
    let headed : c.store_header.new.arena
    ≡ header_stored c.args.count c.args.node.arc (shallow_with c.args.count c.args.node.parent.0 c.args.node.depth c.args.arena.now) c.args.arena.now =
    c.store_header.ensures ∙ ap (λ (t : Bool). header_stored c.args.count c.args.node.arc t c.args.arena.now) c.is_shallow-shallow.ensures in
    c.store_node.ensures
    ∙ ap (λ (l : List ℕ). record_stored c.args.count c.args.node c.args.path.now (three_links c.args.count invalid invalid invalid l))
    (c.link_child.ensures ∙ ap (child_linked c.args.node.parent.0 c.args.count) headed)
    ∙ sym (encode-append c.args.arena.now c.args.count c.args.node c.args.path.now c.requires arena-bytes numbers)
