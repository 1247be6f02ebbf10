-- The buffer holds what was read, and that was taken from the input. The measure is what is left of
-- the buffer.
use Rattle.std.proofs.Common.{◌-◌, ◌≤◌, length, take}
use Rattle.std.specs.Io.KnownBytes.{Consumes}
use Rattle.command_io.proofs.input.read_input.Given as goal

abbrev pub invariant-loop-held : goal.invariant-loop-held
invariant-loop-held g l =
    record { within : l.held ≤ length l.bytes; read : Consumes (g.R.Read.remaining l.initial.from) (g.R.Read.remaining l.from) (take l.held l.bytes) }

abbrev pub decreases-loop-held : goal.decreases-loop-held
decreases-loop-held g l = length l.bytes - l.held
