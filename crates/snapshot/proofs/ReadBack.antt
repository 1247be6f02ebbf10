-- What is written reads back: of an arena that holds a graph, the snapshot is accepted with the
-- same nodes, the child lists in node order, not ordered, shallow found anew; and an arena that it
-- is read into holds that graph: `written-reads-back`. Assumes nothing.
use mathlib.Core.Path.{◌≡◌, sym, ap, ◌∙◌}
use mathlib.Core.Bool.{true}
use mathlib.Core.List.{List}
use Prim.Native.Nat.{ℕ}
use lib.ListN.{length}
use Rattle.model.specs.Node.{Node}
use Rattle.model.specs.Graph.{Graph, empty_graph, size}
use Rattle.model.specs.Snapshot.{write_snapshot}
use Rattle.model.specs.Calls.{Outcome, read_into}
use Rattle.model.specs.Arena.{arena_bytes, decode, encode, holds_graph}
use Rattle.model.specs.ArenaCalls.{arena_after}
use Rattle.laws.proofs.BigEndianLaws.{Bytes}
use Rattle.laws.proofs.SnapshotLaws.{NodesFit}
use Rattle.laws.proofs.SnapshotReadLaws.{built, built-nodes, Fresh, Grows, grows-fresh, written-grows-back}
use Rattle.laws.proofs.LegalGrows.{legal-grows, grows-legal}
use Rattle.arena.proofs.Encodable.{unordered, Encodable, legal-encodable}
use Rattle.arena.proofs.ArenaLaws.{decode-encode}
use Rattle.arena.proofs.ArenaHolds.{holds-encoded}
use Rattle.arena.proofs.HeldEncodable.{held-encodable}

-- the arena `into`, after the snapshot of the graph g was read into it
abbrev pub read_back : Graph → List ℕ → List ℕ
read_back g into = arena_after (read_into (write_snapshot g) empty_graph) into

pub record ReadsBack (g : Graph) : Type 0 where
  pub accepted : (read_into (write_snapshot g) empty_graph).refused ≡ 0
  pub count : (read_into (write_snapshot g) empty_graph).value ≡ size g
  pub nodes : (read_into (write_snapshot g) empty_graph).graph.nodes ≡ g.nodes
  pub fresh : Fresh (read_into (write_snapshot g) empty_graph).graph
  pub holds : (into : List ℕ) → length into ≡ arena_bytes → holds_graph (read_back g into) ≡ true
  pub graph : (into : List ℕ) → length into ≡ arena_bytes → decode (read_back g into) ≡ (read_into (write_snapshot g) empty_graph).graph

-- the graph built of nodes that pass their questions can be encoded
pub built-encodable : (ns : List Node) → NodesFit ns → Grows ns → Encodable (built ns)
built-encodable ns fit grow = legal-encodable (built ns) (grows-legal ns grow) (rw (built-nodes ns) fit)

encodable-reads-back : (g : Graph) → Encodable g → ReadsBack g
encodable-reads-back g ok =
    let grow : Grows g.nodes = legal-grows (unordered g) ok.legal in
    let read = written-grows-back g empty_graph ok.fit grow in
    let fine = built-encodable g.nodes ok.fit grow in
    let same : (read_into (write_snapshot g) empty_graph).graph ≡ built g.nodes = ap (λ (o : Outcome). o.graph) read in
    let stored : (into : List ℕ) → read_back g into ≡ encode (built g.nodes) into = λ into. ap (λ (o : Outcome). arena_after o into) read in
    record {
      accepted = ap (λ (o : Outcome). o.refused) read;
      count = ap (λ (o : Outcome). o.value) read;
      nodes = ap (λ (o : Outcome). o.graph.nodes) read ∙ built-nodes g.nodes;
      fresh = rw same (grows-fresh g.nodes grow);
      holds = λ into whole. ap holds_graph (stored into) ∙ holds-encoded (built g.nodes) into fine whole;
      graph = λ into whole. ap decode (stored into) ∙ decode-encode (built g.nodes) into fine whole ∙ sym same;
    }

pub written-reads-back : (bs : List ℕ) → Bytes bs → length bs ≡ arena_bytes → holds_graph bs ≡ true → ReadsBack (decode bs)
written-reads-back bs bytes whole holds = encodable-reads-back (decode bs) (held-encodable bs bytes whole holds)
