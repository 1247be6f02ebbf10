-- `check_record_lengths` meets its contract. The loop's invariant is `Asked`: what is left passes
-- question 12 where all of it does. Assumes nothing.
use Prim.Native.Nat.{◌-◌}
use Rattle.snapshot.proofs.FieldLaws.{Asked}
use Rattle.snapshot.proofs.checks.check_record_lengths.Given as goal

abbrev pub invariant-loop-passed : goal.invariant-loop-passed
invariant-loop-passed l = Asked l.bytes l.count l.at (l.count - l._passed)
