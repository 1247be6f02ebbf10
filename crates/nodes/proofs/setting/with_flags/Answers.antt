-- `with_flags` meets its contract: the three flags one after the other are one or. Assumes nothing.
use mathlib.Core.Path.{sym}
use Rattle.nodes.proofs.FlagLaws.{flags-or}
use Rattle.nodes.proofs.setting.with_flags.Goals as goal

pub returns : goal.returns
returns c = sym (flags-or c.args.given c.args.flags)
