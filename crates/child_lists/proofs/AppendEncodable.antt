-- A node more, accepted by the questions of a record and with numbers that fit, leaves a graph
-- encodable (`append-encodable`), so the arena in which it is encoded holds the graph with that
-- node (`append-holds`). Most numbers fit because the questions passed (`accepted-fits`). Assumes
-- nothing.
use mathlib.Core.Path.{◌≡◌, refl}
use mathlib.Core.Bool.{true}
use mathlib.Core.List.{List, [], ◌∷◌, ◌++◌}
use Prim.Native.Nat.{ℕ, zero, suc, ◌^◌, ◌≤◌, ◌<◌}
use native.Mathlib.Omega.{arith}
use lib.ListN.{length}
use Rattle.model.specs.Node.{Node}
use Rattle.model.specs.Graph.{Graph, size, with_node}
use Rattle.model.specs.Refusals.{refusal, record_questions}
use Rattle.model.specs.Arena.{arena_bytes, decode, encode, holds_graph}
use Rattle.laws.proofs.PathGrammar.{Grammar, well-formed-decides}
use Rattle.laws.proofs.BigEndianLaws.{Bytes}
use Rattle.laws.proofs.SnapshotLaws.{FieldsFit, NodesFit}
use Rattle.laws.proofs.AcceptedQuestions.{none-refused-accepted}
use Rattle.laws.proofs.LegalGraphs.{LegalNode}
use Rattle.laws.proofs.LegalAdded.{Addable, node-more-keeps-legal, read-addable}
use Rattle.arena.proofs.Encodable.{unordered, Encodable, legal-encodable}
use Rattle.arena.proofs.ArenaLaws.{decode-encode}
use Rattle.arena.proofs.ArenaHolds.{holds-encoded}
use Rattle.arena.proofs.HeldEncodable.{held-encodable}

-- ---- The numbers of an accepted record

-- what the questions leave open: each other number fits its width, and the path is of bytes
pub record NumbersFit (x : Node) : Type 0 where
  pub flags : x.flags < 256
  pub stack : x.stack < 256 ^ 4
  pub layer : x.layer < 256 ^ 4
  pub depth : x.depth < 256 ^ 2
  pub sibling : x.sibling < 256 ^ 2
  pub restriction : x.restriction < 256 ^ 2
  pub spec_from : x.spec_from < 256 ^ 2
  pub path_bytes : Bytes x.path

pub accepted-addable : (g : Graph) (x : Node) → refusal (record_questions g x) ≡ 0 → Addable g x
accepted-addable g x accepted = read-addable g x (none-refused-accepted (record_questions g x) refl accepted)

pub accepted-fits : (g : Graph) (x : Node) → NumbersFit x → refusal (record_questions g x) ≡ 0 → FieldsFit x
accepted-fits g x numbers accepted = record {
  arc = omega (arith, node.arc);
  flags = numbers.flags;
  stack = numbers.stack;
  layer = numbers.layer;
  parent = (links (size g) refl).0;
  origin = (links (size g) refl).1;
  depth = numbers.depth;
  sibling = numbers.sibling;
  restriction = numbers.restriction;
  spec_from = numbers.spec_from;
  has_specs = omega (arith, node.has-specs);
  path_bytes = numbers.path_bytes;
  path-named = path.1;
  path-short = path.2;
}
  where
    new : Addable g x
    new = accepted-addable g x accepted

    node : LegalNode x
    node = new.record-legal

    path : Grammar x.path × (1 ≤ length x.path) × (length x.path ≤ 255)
    path = (well-formed-decides x.path).0 node.path

    links : (n : ℕ) → size g ≡ n → (x.parent < 256 ^ 4) × (x.origin < 256 ^ 4)
    links zero e = let root = new.first e in (omega (arith, root.no-parent), omega (arith, root.no_origin))
    links (suc n) e =
        let some-node : 0 < size g = omega arith in
        (omega (arith, new.node-fits, new.parent-lower some-node), omega (arith, new.node-fits, new.origin-lower some-node))

-- ---- The graph with a node more

fit_append : (xs : List Node) (x : Node) → NodesFit xs → FieldsFit x → NodesFit (xs ++ (x ∷ []))
fit_append [] x fit new = (new, tt)
fit_append (y ∷ xs) x fit new = (fit.0, fit_append xs x fit.1 new)

pub append-encodable : (g : Graph) (x : Node) → Encodable g → FieldsFit x → refusal (record_questions g x) ≡ 0 → Encodable (with_node g x)
unfolding with_node
append-encodable g x ok fits accepted =
    legal-encodable (with_node g x)
    (node-more-keeps-legal (unordered g) x ok.legal (accepted-addable (unordered g) x accepted))
    (fit_append g.nodes x ok.fit fits)

-- the arena with the node more: it holds a graph, that of before with the node
pub append-holds : (bs : List ℕ) (x : Node) → Bytes bs → length bs ≡ arena_bytes → holds_graph bs ≡ true
    → refusal (record_questions (decode bs) x) ≡ 0 → FieldsFit x
    → (holds_graph (encode (with_node (decode bs) x) bs) ≡ true) × (decode (encode (with_node (decode bs) x) bs) ≡ with_node (decode bs) x)
append-holds bs x bytes whole holds accepted fits =
    let ok = append-encodable (decode bs) x (held-encodable bs bytes whole holds) fits accepted in
    (holds-encoded (with_node (decode bs) x) bs ok whole, decode-encode (with_node (decode bs) x) bs ok whole)
