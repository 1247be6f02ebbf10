-- `entries_valid` meets its contract. The loop's invariant is `EntriesTo`: the first k entries are
-- nodes, none twice, and `seen` has a 1 at each. Assumes nothing.
use mathlib.Core.Path.{sym, ap, subst, ◌∙◌}
use Prim.Native.Nat.{ℕ, ◌+◌}
use native.Mathlib.Omega.{arith}
use lib.ListN.{get_or, set}
use Rattle.validate.proofs.EntriesLaws.{EntriesTo, entries_none, entry-no-node, entry-twice, entries-more, entries-all}
use Rattle.validate.proofs.graph.entries_valid.Goals as goal

pub loop-k-init : goal.loop-k-init
loop-k-init c =
    entries_none _

pub returns-then-entry-count : goal.returns-then-entry-count
returns-then-entry-count c =
    sym (entry-no-node c.args.arena.now c.loop-k.k (omega (arith, c.loop-k-test, c.requires.1))
    (omega (arith, c.if-entry-count.true, c.requires.1, c.order_entry-entry.ensures)))

pub returns-then-seen-at-ne0 : goal.returns-then-seen-at-ne0
returns-then-seen-at-ne0 c =
    let entry = c.order_entry-entry.ensures in
    sym (entry-twice _ _ _ c.loop-k.invariant (omega (arith, c.loop-k-test, c.requires.1))
    (omega (arith, c.if-entry-count.false, c.requires.1, entry)) (λ e. c.if-seen-at-ne0.true (ap (λ (a : ℕ). get_or c.loop-k.seen a 0) entry ∙ e)))

pub loop-k-preserved : goal.loop-k-preserved
loop-k-preserved c =
    let entry = c.order_entry-entry.ensures in
    subst (λ (a : ℕ). EntriesTo c.args.arena.now (set c.loop-k.seen a 1) (c.loop-k.k + 1)) (sym entry)
    (entries-more _ _ _ c.loop-k.invariant (omega (arith, c.requires)) (omega (arith, c.loop-k-test, c.requires.1))
    (omega (arith, c.if-entry-count.false, c.requires.1, entry)) (ap (λ (a : ℕ). get_or c.loop-k.seen a 0) (sym entry) ∙ c.if-seen-at-ne0.false))

pub returns : goal.returns
returns c =
    sym (entries-all _ _ _ c.loop-k.invariant (omega (arith, c.loop-k-test, c.requires.1)))
