-- `write_entries` meets its contract. The invariant of its loop: storing the entries from n on
-- leaves what storing all leaves. Assumes nothing.
use mathlib.Core.List.{List}
use Prim.Native.Nat.{ℕ}
use lib.ListN.{get_or}
use Rattle.arena.proofs.StoredEntries.{Storing}
use Rattle.child_lists.proofs.links.write_entries.Given as goal

-- the entries, by place
abbrev pub entry_of : List ℕ → ℕ → ℕ
entry_of order n = get_or order n 0

abbrev pub invariant-loop-n : goal.invariant-loop-n
invariant-loop-n l = Storing (entry_of l.order) l.initial.arena l.count l.arena l.n
