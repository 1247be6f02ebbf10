-- `write_first_spec` meets its contract: a store for each case. Assumes nothing.
use Rattle.nodes.proofs.setting.write_first_spec.Goals as goal

pub returns-in-Some : goal.returns-in-Some
returns-in-Some c =
    rw c.in-Some.is c.write_specs.ensures

pub returns-in-None : goal.returns-in-None
returns-in-None c =
    rw c.in-None.is c.write_specs-in-None.ensures
