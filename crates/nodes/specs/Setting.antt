-- What the calls that set the specs of one node store.
use Rattle.std.specs.Prelude.{None, Option, Some}
use Rattle.std.specs.Prelude.{List, ℕ}
use Rattle.arena.specs.Slot.{specs_stored}

-- the arena with spec_from and has-specs of node n
abbrev pub first_spec_stored : ℕ → Option ℕ → List ℕ → List ℕ
first_spec_stored n None bs = specs_stored n 0 0 bs
first_spec_stored n (Some first) bs = specs_stored n first 1 bs
