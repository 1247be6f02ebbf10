-- What the reader's proof cites: what each pass answers, as what reading comes to. Refused by any
-- of them, the arena keeps its bytes. Assumes nothing.
use Rattle.std.specs.Prelude.{None, Option, Some}
use Rattle.std.specs.Prelude.{Err, Ok}
use mathlib.Core.Path.{◌≡◌, refl, sym, ap, ◌∙◌}
use mathlib.Core.List.{List}
use Prim.Native.Nat.{ℕ}
use native.Mathlib.Omega.{arith}
use lib.ListN.{length}
use Rattle.model.specs.Node.{Node}
use Rattle.model.specs.Graph.{empty_graph}
use Rattle.model.specs.Snapshot.{read_snapshot}
use Rattle.model.specs.Calls.{Outcome, read_or12, read_into}
use Rattle.model.specs.Arena.{encode}
use Rattle.model.specs.ArenaCalls.{Wrote}
use Rattle.model.specs.declared.Refusal.{Refusal}
use Rattle.model.specs.declared.Refusal.TheVariants.{Snapshot}
use Rattle.laws.proofs.SnapshotReadLaws.{built-nodes, refused-read-keeps}
use Rattle.laws.proofs.ArenaCallLaws.{refusal-some, wrote-refused, wrote-number}
use Rattle.snapshot.specs.SnapshotReading.{counted_as, nodes_or, nodes_read, Exact, RecordsChecked}
use Rattle.snapshot.proofs.SnapshotFill.{graph-read}

-- ---- Question 12

pub exact_read : (bytes : List ℕ) (count : ℕ) → counted_as (read_snapshot bytes) ≡ Ok count → Exact bytes count
exact_read bytes count e = go (read_snapshot bytes) refl e
  where
    go : (o : Option (List Node)) → read_snapshot bytes ≡ o → counted_as o ≡ Ok count → Exact bytes count
    go None q r = let z : ◌≡◌ {A = ℕ} 0 1 = cc in absurd (omega arith)
    go (Some xs) q r =
        let number : count ≡ length xs = cc in
        record {
          read = q ∙ ap (λ (o : Option (List Node)). Some (nodes_or o)) (sym q);
          counted = number ∙ ap (λ (o : Option (List Node)). length (nodes_or o)) (sym q);
        }

pub not-exact : (bytes arena : List ℕ) (r : Refusal) → counted_as (read_snapshot bytes) ≡ Err r
    → Wrote (read_into bytes empty_graph) arena (Err r) arena
unfolding read_into
not-exact bytes arena r e = go (read_snapshot bytes) e
  where
    go : (o : Option (List Node)) → counted_as o ≡ Err r → Wrote (read_or12 o empty_graph) arena (Err r) arena
    go None q = let same : Snapshot ≡ r = cc in rw (sym same) (record { refused = refl; value = refl; arena = refl })
    go (Some xs) q = let z : ◌≡◌ {A = ℕ} 0 1 = cc in absurd (omega arith)

-- ---- Questions 4 to 7

pub refused-read : (bytes prims arena : List ℕ) (r : Refusal) → RecordsChecked bytes (Err r) prims
    → Wrote (read_into bytes empty_graph) arena (Err r) arena
refused-read bytes prims arena r checked =
    wrote-refused arena (read_into bytes empty_graph) r checked.refused
    (ap (λ (o : Outcome). o.value) (refused-read-keeps bytes empty_graph (λ z. refusal-some r (checked.refused ∙ z))))

-- ---- None

pub filled-read : (bytes before after : List ℕ) (count : ℕ) → Exact bytes count → (read_into bytes empty_graph).refused ≡ 0
    → after ≡ encode (read_into bytes empty_graph).graph before → Wrote (read_into bytes empty_graph) before (Ok count) after
filled-read bytes before after count exact passed e =
    wrote-number before after (read_into bytes empty_graph) count passed
    (exact.counted ∙ sym (ap (λ (o : Outcome). o.value) (graph-read bytes count exact passed) ∙ ap length (built-nodes (nodes_read bytes)))) e
