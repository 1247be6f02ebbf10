-- `cull` meets its contract: with no node and with no local root nothing changes. Assumes nothing.
use mathlib.Core.Path.{sym, ◌∙◌}
use native.Mathlib.Omega.{arith}
use Rattle.laws.proofs.BigEndianLaws.{Bytes}
use Rattle.laws.proofs.StoredLaws.{bytes-by-place}
use Rattle.culling.proofs.FlagStores.{encode-empty, encode-unrooted}
use Rattle.culling.proofs.flags.cull.Goals as goal

pub returns-then-count-eq0 : goal.returns-then-count-eq0
returns-then-count-eq0 c =
    let bytes : Bytes c.args.arena.now =
    bytes-by-place c.args.arena.now (λ k. (c.slice_known-1.given k).fits) in
    encode-empty _ bytes c.requires (sym c.count-count.ensures ∙ c.if-count-eq0.true)

pub returns-then-root-eq0 : goal.returns-then-root-eq0
returns-then-root-eq0 c =
    let bytes : Bytes c.args.arena.now =
    bytes-by-place c.args.arena.now (λ k. (c.slice_known-1.given k).fits) in
    encode-unrooted _ bytes c.requires (omega (arith, c.if-count-eq0.false, c.count-count.ensures))
    (sym c.local_root-root.ensures ∙ c.if-root-eq0.true)
