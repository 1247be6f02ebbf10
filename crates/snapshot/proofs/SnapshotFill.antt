-- What the proofs of the reader's last pass cite. The loop's state is `Filled`: the arena is the
-- encoding of the graph of the first n records. Start, step and end; and that a record's node may
-- be appended. Assumes nothing.
use mathlib.Core.Path.{◌≡◌, refl, sym, ap, subst, ◌∙◌}
use mathlib.Core.List.{List, [], ◌∷◌, foldl}
use Prim.Native.Nat.{ℕ, zero, suc, ◌+◌, ◌-◌, ◌≤◌, ◌<◌}
use native.Mathlib.Numerals.{add-one}
use native.Mathlib.Omega.{arith}
use lib.ListN.{length, take, drop, length-drop}
use lib.Seq.{take_all}
use Rattle.model.specs.Path.{prim_count}
use Rattle.model.specs.Node as model
use Rattle.model.specs.Graph.{Graph, empty_graph, size, node_at, with_node}
use Rattle.model.specs.Snapshot.{read_record}
use Rattle.model.specs.Refusals.{refusal, record_questions}
use Rattle.model.specs.Calls.{Outcome, read_into}
use Rattle.model.specs.Arena.{arena_bytes, count_in, slots_stored, order_stored, header_bytes, root_stored, decode, encode, holds_graph}
use Rattle.laws.proofs.BigEndianLaws.{Bytes}
use Rattle.laws.proofs.StoredLaws.{stored-again}
use Rattle.laws.proofs.SnapshotLaws.{NodesFit, read-nodes-fit}
use Rattle.laws.proofs.SnapshotReadLaws.{built, GrowsFrom, Grows, accepted, accepted-read, grown-read}
use Rattle.arena.specs.declared.Node.{Node}
use Rattle.arena.specs.Slot.{node_of}
use Rattle.arena.proofs.Encodable.{Encodable, empty-encodable, fit_at}
use Rattle.arena.proofs.ArenaParts.{length-encode}
use Rattle.arena.proofs.ArenaFields.{count-encode}
use Rattle.arena.proofs.ArenaLaws.{decode-encode}
use Rattle.arena.proofs.ArenaHolds.{holds-encoded}
use Rattle.child_lists.specs.Append.{CanAppend}
use Rattle.child_lists.proofs.AppendEncodable.{append-encodable}
use Rattle.child_lists.proofs.EncodeOver.{added-unordered, encode-next}
use Rattle.snapshot.specs.SnapshotReading.{nodes_or, nodes_read, Exact}
use Rattle.snapshot.proofs.SnapshotRecords.{record_part, Reached, reached-none, node-lent, piece-long, reached-more}
use Rattle.snapshot.proofs.CheckLaws.{built-more, built-sized}
use Rattle.snapshot.specs.Filling.{NodeRead, CanAppendRecord}

-- ---- A record's node

node-read : (body : List ℕ) (prims : ℕ) (x : Node) → NodeRead body prims x → node_of x (drop 27 body) ≡ read_record body
unfolding read_record
node-read body prims x r = λ i. record {
  arc = r.arc i;
  flags = r.flags i;
  stack = r.stack i;
  layer = r.layer i;
  parent = r.parent i;
  origin = r.origin i;
  depth = r.depth i;
  sibling = r.sibling i;
  restriction = r.restriction i;
  spec_from = r.spec_from i;
  has_specs = r.has_specs i;
  path = drop 27 body;
}

-- the path as it is lent
module _ (arena : List ℕ) (n : ℕ) (body : List ℕ) (prims : ℕ) (can : CanAppendRecord arena n body prims) (x : Node) (r : NodeRead body prims x) where
  abbrev path : List ℕ
  path = take (length body - 27) (drop 27 body)

  path-whole : path ≡ drop 27 body
  path-whole = take_all (length body - 27) (drop 27 body) (rw length-drop (omega arith))

  pub node-of-record : node_of x path ≡ read_record body
  node-of-record = ap (node_of x) path-whole ∙ node-read body prims x r

  pub can-append : CanAppend arena n x path
  can-append = record {
    opened = can.opened;
    counted = can.counted;
    accepted = ap (λ (y : model.Node). refusal (record_questions (decode arena) y)) node-of-record ∙ can.accepted;
    named = r.prim_count ∙ can.named ∙ ap (λ (y : model.Node). prim_count y.path) (sym node-of-record);
    long = omega (arith, r.record_length, ap length path-whole, length-drop 27 body, can.numbered);
  }

-- ---- A snapshot that is accepted

module _ (bytes : List ℕ) (count : ℕ) (exact : Exact bytes count) (passed : (read_into bytes empty_graph).refused ≡ 0) where
  pub grow : Grows (nodes_read bytes)
  grow = let read = accepted-read bytes empty_graph passed in subst Grows (sym (ap nodes_or read.read)) read.grow

  pub graph-read : read_into bytes empty_graph ≡ accepted (built (nodes_read bytes))
  graph-read = grown-read bytes empty_graph (nodes_read bytes) exact.read grow

accepted-at : (g : Graph) (xs : List model.Node) (n : ℕ) → GrowsFrom g xs → n < length xs
    → refusal (record_questions (foldl with_node g (take n xs)) (node_at xs n)) ≡ 0
accepted-at g [] n grow h = absurd (omega arith)
accepted-at g (x ∷ xs) zero grow h = grow.0
accepted-at g (x ∷ xs) (suc n) grow h = accepted-at (with_node g x) xs n grow.1 (omega arith)

-- ---- The empty graph

-- its bytes are lost under those of any graph
over-empty : (g : Graph) (bs : List ℕ) → length bs ≡ arena_bytes → encode g (encode empty_graph bs) ≡ encode g bs
unfolding encode
over-empty g bs whole =
    ap (λ (s : List ℕ). order_stored g.order 0 (slots_stored g (size g) (root_stored g s)))
    (stored-again 0 (header_bytes empty_graph) (header_bytes g) bs (omega arith) (omega arith))

-- ---- The loop's state

pub record Filled (cleared bytes arena : List ℕ) (at n : ℕ) : Type 0 where
  pub reached : Reached bytes at n
  pub encodable : Encodable (built (take n (nodes_read bytes)))
  pub unordered : (built (take n (nodes_read bytes))).order ≡ []
  pub arena-is : arena ≡ encode (built (take n (nodes_read bytes))) cleared
  pub whole : length cleared ≡ arena_bytes

pub filled_none : (entry cleared bytes : List ℕ) (count : ℕ) → Exact bytes count → length entry ≡ arena_bytes → cleared ≡ encode empty_graph entry
    → Filled cleared bytes cleared 7 0
filled_none entry cleared bytes count exact whole e = record {
  reached = reached-none bytes count exact;
  encodable = empty-encodable;
  unordered = refl;
  arena-is = e ∙ sym (over-empty empty_graph entry whole) ∙ ap (encode empty_graph) (sym e);
  whole = ap length e ∙ length-encode empty_graph entry empty-encodable whole ∙ whole;
}

module _ (cleared bytes arena : List ℕ) (at n : ℕ) (filled : Filled cleared bytes arena at n) where
  abbrev nodes : List model.Node
  nodes = nodes_read bytes

  abbrev graph : Graph
  graph = built (take n nodes)

  pub filled-length : length arena ≡ arena_bytes
  filled-length = ap length filled.arena-is ∙ length-encode graph cleared filled.encodable filled.whole ∙ filled.whole

  held : decode arena ≡ graph
  held = ap decode filled.arena-is ∙ decode-encode graph cleared filled.encodable filled.whole

  -- the end
  pub filled-all : (entry : List ℕ) → length entry ≡ arena_bytes → cleared ≡ encode empty_graph entry → (count : ℕ) → Exact bytes count
      → (read_into bytes empty_graph).refused ≡ 0 → length nodes ≤ n → arena ≡ encode (read_into bytes empty_graph).graph entry
  filled-all entry whole e count exact passed end =
      let all : graph ≡ (read_into bytes empty_graph).graph =
      ap built (take_all n nodes end) ∙ ap (λ (o : Outcome). o.graph) (sym (graph-read bytes count exact passed)) in
      filled.arena-is ∙ ap (encode graph) e ∙ over-empty graph entry whole ∙ ap (λ (g : Graph). encode g entry) all

  -- the next record, lent as `piece`
  module _ (grown : Grows nodes) (h : n < length nodes) (piece : List ℕ) (e : piece ≡ record_part at bytes) where
    abbrev x : model.Node
    x = node_at nodes n

    node : read_record piece ≡ x
    node = node-lent bytes at n filled.reached h piece e

    passes : refusal (record_questions graph x) ≡ 0
    passes = accepted-at empty_graph nodes n grown h

    pub can-append-record : (prims : ℕ) → prims ≡ prim_count x.path → CanAppendRecord arena n piece prims
    can-append-record prims named =
        let long = piece-long bytes at n filled.reached h piece e in
        record {
          opened = record {
            whole = filled-length;
            holds = ap holds_graph filled.arena-is ∙ holds-encoded graph cleared filled.encodable filled.whole;
          };
          counted = sym (ap count_in filled.arena-is ∙ count-encode graph cleared filled.encodable filled.whole ∙ built-sized nodes n filled.reached.few);
          accepted =
              ap (λ (g : Graph). refusal (record_questions g (read_record piece))) held
              ∙ ap (λ (y : model.Node). refusal (record_questions graph y)) node ∙ passes;
          named = named ∙ ap (λ (y : model.Node). prim_count y.path) (sym node);
          numbered = omega arith;
          short = long.1;
        }

    pub filled_more : NodesFit nodes → (next : List ℕ) → next ≡ encode (with_node (decode arena) (read_record piece)) arena
        → Filled cleared bytes next (at + (2 + length piece)) (n + 1)
    filled_more fit next q =
        let more : Encodable (with_node graph x) = append-encodable graph x filled.encodable (fit_at nodes fit n h) passes in
        let same : with_node graph x ≡ built (take (n + 1) nodes) =
        sym (ap (λ (k : ℕ). built (take k nodes)) (add-one n) ∙ built-more empty_graph nodes n h) in
        record {
          reached = reached-more bytes at n filled.reached h piece e;
          encodable = subst Encodable same more;
          unordered = ap (λ (g : Graph). g.order) (sym same) ∙ added-unordered graph x;
          arena-is =
              q ∙ ap (λ (y : model.Node). encode (with_node (decode arena) y) arena) node
              ∙ encode-next graph x cleared arena filled.encodable more filled.whole filled.unordered filled.arena-is
              ∙ ap (λ (g : Graph). encode g cleared) same;
          whole = filled.whole;
        }

pub nodes-fit : (bytes : List ℕ) (count : ℕ) → Bytes bytes → Exact bytes count → NodesFit (nodes_read bytes)
nodes-fit bytes count h exact = read-nodes-fit bytes (nodes_read bytes) h exact.read
