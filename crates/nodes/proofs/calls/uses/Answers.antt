-- `uses` meets its contract: the tests are the definition's, in its order. Assumes nothing.
use mathlib.Core.Path.{◌≡◌, sym, ap, ◌∙◌}
use mathlib.Core.Bool.{not, ◌||◌}
use Prim.Native.Nat.{ℕ}
use mathlib.Core.List.{List}
use borrow.Author.Tests.{eq-eqb, ne_eqb, not-true, not-false}
use Rattle.model.specs.Node.{has_flag, inert_flag, culled_flag, is_inert, is_culled}
use Rattle.model.specs.Path.{same_path}
use Rattle.model.specs.Arena.{node_in}
use Rattle.arena.proofs.ReadNodes.{has-slot, has-path, fields_read}
use Rattle.nodes.proofs.calls.uses.Goals as goal

pub flags-requires : goal.flags-requires
flags-requires c =
    has-slot _ _ c.requires

pub returns-then-not-contributes : goal.returns-then-not-contributes
returns-then-not-contributes c =
    let skips : not (is_inert (node_in c.args.arena.now c.args.n) || is_culled (node_in c.args.arena.now c.args.n))
    ≡ c.contributes.result =
    ap (λ (f : ℕ). not (has_flag inert_flag f || has_flag culled_flag f)) ((fields_read _ _ c.requires).flags ∙ sym c.flags.ensures)
    ∙ sym c.contributes.ensures in
    rw (skips ∙ not-true _ c.if-not-contributes.true-raw)

pub stack-requires : goal.stack-requires
stack-requires c =
    has-slot _ _ c.requires

pub returns-then-stack : goal.returns-then-stack
returns-then-stack c =
    let skips : not (is_inert (node_in c.args.arena.now c.args.n) || is_culled (node_in c.args.arena.now c.args.n))
    ≡ c.contributes.result =
    ap (λ (f : ℕ). not (has_flag inert_flag f || has_flag culled_flag f)) ((fields_read _ _ c.requires).flags ∙ sym c.flags.ensures)
    ∙ sym c.contributes.ensures in
    rw (
      skips ∙ not-false _ c.if-not-contributes.false-raw,
      ne_eqb (node_in c.args.arena.now c.args.n).stack c.args.stack (λ e. c.if-stack.true (c.stack.ensures ∙ sym (fields_read _ _ c.requires).stack ∙ e)),
    )

pub path-requires : goal.path-requires
path-requires c =
    has-path _ _ c.requires

pub returns : goal.returns
returns c =
    let skips : not (is_inert (node_in c.args.arena.now c.args.n) || is_culled (node_in c.args.arena.now c.args.n))
    ≡ c.contributes.result =
    ap (λ (f : ℕ). not (has_flag inert_flag f || has_flag culled_flag f)) ((fields_read _ _ c.requires).flags ∙ sym c.flags.ensures)
    ∙ sym c.contributes.ensures in
    let stack = (fields_read _ _ c.requires).stack ∙ sym c.stack.ensures ∙ c.if-stack.false in
    rw (skips ∙ not-false _ c.if-not-contributes.false-raw, eq-eqb (node_in c.args.arena.now c.args.n).stack c.args.stack stack)
    (c.same_path.ensures ∙ ap (λ (p : List ℕ). same_path p c.args.path.now) c.path.ensures)
