-- `ends_in` meets its contract: the byte before the end is tested. Assumes nothing.
use Rattle.path.proofs.BackwardLaws.{ends-in-at}
use Rattle.path.proofs.back.ends_in.Goals as goal

pub returns : goal.returns
returns c =
    ends-in-at _ _ _ c.if-end-eq0.false
