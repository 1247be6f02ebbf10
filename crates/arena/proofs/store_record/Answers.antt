-- `store_record` meets its contract: the five stores are one, and the length is that of the record
-- stored. Assumes nothing.
use mathlib.Core.Path.{◌≡◌, sym, ap, ◌∙◌}
use mathlib.Core.List.{[], ◌∷◌, ◌++◌}
use Prim.Native.Nat.{ℕ, ◌+◌}
use native.Mathlib.Omega.{arith}
use lib.ListN.{length}
use Rattle.model.specs.Arena.{slot_at}
use Rattle.model.specs.Bytes.{stored}
use Rattle.model.specs.Snapshot.{big_endian, record_body}
use Rattle.laws.proofs.SnapshotLaws.{record-length}
use Rattle.arena.specs.Slot.{node_of, head_bytes, id_bytes, depth_bytes}
use Rattle.arena.proofs.StoreLaws.{run-stored}
use Rattle.arena.proofs.store_record.Goals as goal

pub returns : goal.returns
unfolding record_body
returns c =
    let x = c.args.node in
    let model = node_of x c.args.path.now in
    let length-right : x.record_length ≡ length (record_body model) = c.requires.record_length_value.0 ∙ sym (record-length model) in
    run-stored (slot_at c.args.n) 16
    (head_bytes x.prim_count x ∷ id_bytes x ∷ depth_bytes x ∷ big_endian 1 x.has_specs ∷ []) c.args.path.now c.args.arena.now _ (omega (arith, c.requires)) (
      _,
      c.store_head.ensures,
      (
        _,
        c.store_ids.ensures,
        (
          _,
          c.store_depths.ensures,
          (_, c.write_u8.ensures, c.write_bytes.ensures),
        ),
      ),
    )
    ∙ ap (λ (k : ℕ). stored (slot_at c.args.n + 16) (x.prim_count ∷ (big_endian 2 k ++ record_body model)) c.args.arena.now) length-right
