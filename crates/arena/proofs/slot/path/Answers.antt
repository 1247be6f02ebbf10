-- `path` meets its contract: the part handed back is what follows the numbers of the record.
-- Assumes nothing.
use mathlib.Core.Path.{◌≡◌, sym, ap, ◌∙◌}
use Prim.Native.Nat.{ℕ, ◌+◌, ◌-◌}
use native.Mathlib.Omega.{arith}
use lib.ListN.{take, drop}
use Rattle.model.specs.Arena.{slot_at, record_length_in}
use Rattle.model.specs.Snapshot.{read_record}
use Rattle.arena.proofs.SlotLaws.{rest-of-part}
use Rattle.arena.proofs.slot.path.Goals as goal

pub returns : goal.returns
unfolding read_record
returns c =
    let bs = c.args.arena.now in
    let body = slot_at c.args.n + 19 in
    let len = record_length_in bs c.args.n in
    let long : (body + c.record_length.result) - (body + 27) ≡ len - 27 = omega arith in
    ap (λ (k : ℕ). take k (drop (body + 27) bs)) long ∙ sym (rest-of-part body len 27 bs c.requires.numbered)
