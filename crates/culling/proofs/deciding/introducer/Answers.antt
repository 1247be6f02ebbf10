-- `introducer` meets its contract: origins do not rise. Assumes nothing.
use mathlib.Core.Path.{◌≡◌, sym, ◌∙◌}
use native.Mathlib.Omega.{arith}
use Rattle.model.specs.Arena.{decode}
use Rattle.model.specs.Culling.{introducer}
use Rattle.culling.proofs.NodeTests.{introducer-le}
use Rattle.culling.proofs.deciding.introducer.Goals as goal

pub returns-then-is_authored : goal.returns-then-is_authored
returns-then-is_authored c =
    (rw (sym c.is_authored.ensures ∙ c.if-is_authored.true), omega arith)

pub returns : goal.returns
returns c =
    let found : c.origin_root_node-found.result.node ≡ introducer (decode c.args.arena.now).nodes c.args.n =
    rw (sym c.is_authored.ensures ∙ c.if-is_authored.false) c.origin_root_node-found.ensures.node in
    (found, omega (arith, found, introducer-le c.args.arena.now c.args.n c.requires))
