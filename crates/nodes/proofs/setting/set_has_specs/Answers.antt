-- `set_has_specs` meets its contract: it is `set_first_spec` with position 0 or with none. Assumes
-- nothing.
use Rattle.model.specs.Calls.{set_has_specs}
use Rattle.nodes.proofs.setting.set_has_specs.Goals as goal

pub returns-then-authored : goal.returns-then-authored
unfolding set_has_specs
returns-then-authored c =
    rw c.if-authored.true c.set_first_spec.ensures

pub returns : goal.returns
unfolding set_has_specs
returns c =
    rw c.if-authored.false c.set_first_spec-2.ensures
