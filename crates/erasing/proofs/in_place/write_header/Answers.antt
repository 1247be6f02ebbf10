-- `write_header` meets its contract: its two stores, one after the other. Assumes nothing.
use mathlib.Core.Path.{ap, ◌∙◌}
use Rattle.arena.specs.Header.{local_root_stored}
use Rattle.erasing.proofs.in_place.write_header.Goals as goal

pub returns : goal.returns
returns c =
    c.write_local_root.ensures ∙ ap (local_root_stored c.args.root) c.write_count.ensures
