-- `read_info` meets its contract: each field is the header's. Assumes nothing.
use mathlib.Core.Path.{ap, ◌∙◌}
use mathlib.Core.Bool.{cond}
use Prim.Native.Nat.{ℕ}
use lib.Dec.{eqb}
use Rattle.model.specs.Arena.{local_root_in}
use Rattle.nodes.proofs.ReadableLaws.{root-read, graph-shown}
use Rattle.nodes.proofs.calls.read_info.Goals as goal

pub returns : goal.returns
returns c =
    let bs = c.args.arena.now in
    let opened = c.requires.0 in
    let counted = c.requires.1 in
    let root = c.stored_root.ensures ∙ ap (λ (n : ℕ). cond (eqb n 0) 0 (local_root_in bs)) counted in
    graph-shown bs opened _ counted (ap (λ (m : ℕ). eqb m 1) c.ordered.ensures) (ap (λ (m : ℕ). eqb m 1) c.finalized.ensures)
    (ap (λ (m : ℕ). eqb m 1) c.shallow.ensures) (c.root_or_none.ensures ∙ root-read bs opened c.stored_root.result root)
