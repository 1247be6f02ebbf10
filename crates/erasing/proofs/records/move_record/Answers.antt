-- `move_record` meets its contract: the path stands in the room it was copied to, and the rest is
-- `record-moved`. Assumes nothing.
use mathlib.Core.Path.{◌≡◌, sym, ap, ◌∙◌}
use mathlib.Core.List.{List}
use Prim.Native.Nat.{ℕ, ◌+◌}
use native.Mathlib.Omega.{arith}
use lib.ListN.{length, take}
use Rattle.model.specs.Bytes.{stored}
use Rattle.model.specs.Arena.{node_in}
use Rattle.arena.specs.declared.Node.{Node}
use Rattle.arena.specs.Slot.{record_stored}
use Rattle.erasing.proofs.MoveLaws.{path-short, path-copied, counts-path, record-moved}
use Rattle.erasing.proofs.records.move_record.Goals as goal

pub write_bytes-requires : goal.write_bytes-requires
write_bytes-requires c =
    omega (arith, ap length c.path.ensures, path-short c.args.arena.now c.args.from c.requires.has_path.0, c.requires.has_path.2)

pub slice_bounds-store_record-end : goal.slice_bounds-store_record-end
slice_bounds-store_record-end c =
    omega (arith, ap length c.path-length.ensures, path-short c.args.arena.now c.args.from c.requires.has_path.0, c.write_bytes.auto.out, c.requires.has_path.2)

pub slice_bounds-store_record-end-2 : goal.slice_bounds-store_record-end-2
slice_bounds-store_record-end-2 c =
    let copied : take (length c.path-length.result.now) c.write_bytes.new.out ≡ (node_in c.args.arena.now c.args.from).path =
    path-copied c.args.arena.now c.args.from c.requires.has_path.0 c.args.path.now _ _ c.requires.has_path.2
    c.path-length.ensures
    (c.write_bytes.ensures ∙ ap (λ (l : List ℕ). stored 0 l c.args.path.now) c.path.ensures) in
    ap length (c.path-length.ensures ∙ sym copied)

pub store_record-requires : goal.store_record-requires
store_record-requires c =
    let copied : take (length c.path-length.result.now) c.write_bytes.new.out ≡ (node_in c.args.arena.now c.args.from).path =
    path-copied c.args.arena.now c.args.from c.requires.has_path.0 c.args.path.now _ _ c.requires.has_path.2
    c.path-length.ensures
    (c.write_bytes.ensures ∙ ap (λ (l : List ℕ). stored 0 l c.args.path.now) c.path.ensures) in
    let p = c.requires.has_path.0 in record {
      has_slot = c.requires.has_path.1;
      record_length_value = (
        ap (λ (x : Node). x.record_length) c.renumber-node.ensures
            ∙ counts-path c.args.arena.now c.args.from p _ c.load_node.ensures ∙ ap (λ (l : List ℕ). 27 + length l) (sym copied),
        omega (arith, ap length copied, path-short c.args.arena.now c.args.from p),
      );
    }

pub returns : goal.returns
returns c =
    let copied : take (length c.path-length.result.now) c.write_bytes.new.out ≡ (node_in c.args.arena.now c.args.from).path =
    path-copied c.args.arena.now c.args.from c.requires.has_path.0 c.args.path.now _ _ c.requires.has_path.2
    c.path-length.ensures
    (c.write_bytes.ensures ∙ ap (λ (l : List ℕ). stored 0 l c.args.path.now) c.path.ensures) in
    c.store_record.ensures
    ∙ (λ i. record_stored c.args.to (c.renumber-node.ensures i) (copied i) c.args.arena.now)
    ∙ record-moved c.args.arena.now c.args.from c.requires.has_path.0 _ c.load_node.ensures c.args.numbers.now c.args.count c.args.to
