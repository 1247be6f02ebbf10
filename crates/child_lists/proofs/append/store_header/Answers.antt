-- `store_header` meets its contract: the two stores, and the third where the arc is Root. Assumes
-- nothing.
use mathlib.Core.Path.{ap, ◌∙◌}
use mathlib.Core.Bool.{false}
use borrow.Author.Tests.{eq-eqb, ne_eqb}
use Rattle.model.specs.Node.{root_arc}
use Rattle.arena.specs.Header.{marks_stored, local_root_stored}
use Rattle.child_lists.proofs.append.store_header.Goals as goal

pub returns-then-arc-eq-ROOT : goal.returns-then-arc-eq-ROOT
returns-then-arc-eq-ROOT c =
    rw (eq-eqb c.args.arc root_arc c.if-arc-eq-ROOT.true)
    (c.write_local_root.ensures
    ∙ ap (local_root_stored c.args.n) (c.write_state.ensures ∙ ap (marks_stored false false c.args.shallow) c.write_count.ensures))

pub returns-else-arc-eq-ROOT : goal.returns-else-arc-eq-ROOT
returns-else-arc-eq-ROOT c =
    rw (ne_eqb c.args.arc root_arc c.if-arc-eq-ROOT.false)
    (c.write_state.ensures ∙ ap (marks_stored false false c.args.shallow) c.write_count.ensures)
