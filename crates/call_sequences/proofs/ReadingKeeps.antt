-- Reading a snapshot leaves an encodable graph: that of the nodes read, or the old one where it is
-- refused (`reading-keeps`). Assumes nothing.
use mathlib.Core.Path.{◌≡◌, refl, sym, ap, subst}
use mathlib.Core.List.{List}
use Prim.Native.Nat.{ℕ, zero, suc}
use native.Mathlib.Omega.{arith}
use Rattle.model.specs.Graph.{Graph}
use Rattle.model.specs.Calls.{Outcome, read_into}
use Rattle.laws.proofs.BigEndianLaws.{Bytes}
use Rattle.laws.proofs.SnapshotLaws.{read-nodes-fit}
use Rattle.laws.proofs.SnapshotReadLaws.{accepted-read, refused-read-keeps}
use Rattle.arena.proofs.Encodable.{Encodable}
use Rattle.call_sequences.proofs.KeptFits.{Keeps}
use Rattle.snapshot.proofs.ReadBack.{built-encodable}

module _ (bytes : List ℕ) (fit : Bytes bytes) (old : Graph) where
  -- whatever was there
  pub reading-encodable : (read_into bytes old).refused ≡ 0 → Encodable (read_into bytes old).graph
  reading-encodable e =
      let read = accepted-read bytes old e in
      subst Encodable (sym (ap (λ (o : Outcome). o.graph) read.answer))
      (built-encodable read.nodes (read-nodes-fit bytes read.nodes fit read.read) read.grow)

  pub reading-keeps : Encodable old → Keeps old (read_into bytes old)
  reading-keeps ok = go (read_into bytes old).refused refl
    where
      same : ((read_into bytes old).refused ≡ 0 → ⊥) → (read_into bytes old).graph ≡ old
      same h = ap (λ (o : Outcome). o.graph) (refused-read-keeps bytes old h)

      go : (r : ℕ) → (read_into bytes old).refused ≡ r → Keeps old (read_into bytes old)
      go zero e = record { encodable = reading-encodable e; refused = same }
      go (suc r) e = record { encodable = rw (same (λ z. omega arith)) ok; refused = same }
