-- `weigh_same_root` meets its contract: class depths, hops or the local line differ, or the origins
-- are asked. Assumes nothing.
use mathlib.Core.Path.{refl, sym, ◌∙◌}
use Rattle.line_table.proofs.EntryLines.{class-depths-differ, hops-not-alike, local-settles, local-asks}
use Rattle.line_table.proofs.lines.weigh_same_root.Goals as goal

pub returns-then-a-b : goal.returns-then-a-b
returns-then-a-b c =
    class-depths-differ _ _ c.if-a-b.true c.by_number.ensures

pub returns-then-a-b-2 : goal.returns-then-a-b-2
returns-then-a-b-2 c =
    hops-not-alike _ _ c.if-a-b.false c.if-a-b-2.true c.by_number-then-a-b-2.ensures

pub returns-in-Less : goal.returns-in-Less
returns-in-Less c =
    local-settles _ _ c.if-a-b.false c.if-a-b-2.false (λ rest. refl)
    (λ u p q. sym c.in-Less.is ∙ c.local_line.ensures u p q)

pub returns-in-Equal : goal.returns-in-Equal
returns-in-Equal c =
    local-asks _ _ c.if-a-b.false c.if-a-b-2.false
    (λ u p q. sym c.in-Equal.is ∙ c.local_line.ensures u p q) c.by_number-in-Equal.ensures

pub returns-in-Greater : goal.returns-in-Greater
returns-in-Greater c =
    local-settles _ _ c.if-a-b.false c.if-a-b-2.false (λ rest. refl)
    (λ u p q. sym c.in-Greater.is ∙ c.local_line.ensures u p q)
