-- `is_shallow` meets its contract: each return is one way that the mark is found. Assumes nothing.
use mathlib.Core.Path.{◌≡◌, sym, ◌∙◌}
use mathlib.Core.Bool.{false}
use Prim.Native.Nat.{◌<◌}
use borrow.Author.Tests.{eq-eqb, ne_eqb, lt-ltb}
use native.Mathlib.Omega.{arith}
use lib.Dec.{eqb}
use Rattle.model.specs.Arena.{shallow_in}
use Rattle.child_lists.proofs.append.is_shallow.Goals as goal

pub returns-then-shallow-eq1 : goal.returns-then-shallow-eq1
returns-then-shallow-eq1 c =
    rw (eq-eqb _ 1 (sym c.shallow.ensures ∙ c.if-shallow-eq1.true))

pub returns-then-n-eq0 : goal.returns-then-n-eq0
returns-then-n-eq0 c =
    let not-before : eqb (shallow_in c.args.arena.now) 1 ≡ false =
    ne_eqb _ 1 (λ e. c.if-shallow-eq1.false (c.shallow.ensures ∙ e)) in
    rw (not-before, c.if-n-eq0.true)

pub prim_count-requires : goal.prim_count-requires
prim_count-requires c =
    let higher : 0 < c.args.n = omega (arith, c.if-n-eq0.false) in
    record { whole = c.requires.arena_len; within = c.requires.parent_bound higher }

pub returns : goal.returns
returns c =
    let not-before : eqb (shallow_in c.args.arena.now) 1 ≡ false =
    ne_eqb _ 1 (λ e. c.if-shallow-eq1.false (c.shallow.ensures ∙ e)) in
    let higher : 0 < c.args.n = omega (arith, c.if-n-eq0.false) in
    rw (not-before, lt-ltb 0 c.args.n higher, ← c.prim_count.ensures)
