-- `cull_rooted` meets its contract: the flags found are those of the culled graph, and all that is
-- stored. Assumes nothing.
use mathlib.Core.Path.{refl, ◌∙◌}
use native.Mathlib.Omega.{arith}
use Rattle.laws.proofs.BigEndianLaws.{Bytes}
use Rattle.laws.proofs.StoredLaws.{bytes-by-place}
use Rattle.culling.proofs.DecidingLaws.{zeros-clear, few}
use Rattle.culling.proofs.FlagStores.{encode-culled}
use Rattle.culling.proofs.flags.cull_rooted.Goals as goal

pub find_flags-requires : goal.find_flags-requires
find_flags-requires c =
    record { rooted = c.requires; unculled_len = (refl, refl, zeros-clear 1024) }

pub write_all_flags-requires : goal.write_all_flags-requires
write_all_flags-requires c =
    let bytes : Bytes c.args.arena.now =
    bytes-by-place c.args.arena.now (λ k. (c.slice_known-1.given k).fits) in
    (c.requires.opened.whole, omega (arith, c.requires.counted, few _ bytes _ _ c.requires), c.find_flags.auto.flags)

pub returns : goal.returns
returns c =
    let bytes : Bytes c.args.arena.now =
    bytes-by-place c.args.arena.now (λ k. (c.slice_known-1.given k).fits) in
    c.write_all_flags.ensures
    ∙ encode-culled _ bytes c.requires.opened _ c.find_flags.ensures _ c.requires.counted
