-- In an arena that holds a graph, encoding the graph with a node more, where `CanAppend` says that
-- it may come, is the stores that `append_node` makes: `encode-append`; and what each of them asks.
-- Assumes nothing.
use mathlib.Core.Path.{◌≡◌, sym, subst, ◌∙◌}
use mathlib.Core.List.{List, ◌∷◌}
use Prim.Native.Nat.{ℕ, ◌+◌, ◌≤◌, ◌<◌}
use native.Mathlib.Omega.{arith}
use lib.ListN.{length}
use Rattle.model.specs.Bytes.{stored}
use Rattle.model.specs.Node.{invalid, Node}
use Rattle.model.specs.Graph.{Graph, size, with_node}
use Rattle.model.specs.Snapshot.{record_bytes}
use Rattle.model.specs.Arena.{slot_at, decode, encode}
use Rattle.laws.proofs.BigEndianLaws.{Bytes}
use Rattle.laws.proofs.LegalAdded.{Addable}
use Rattle.arena.proofs.Encodable.{Encodable}
use Rattle.arena.proofs.HeldArenas.{held}
use Rattle.arena.proofs.ArenaBack.{size-decode, encode-decode}
use Rattle.arena.proofs.HeldEncodable.{held-encodable}
use Rattle.arena.specs.Slot.{node_of, record_stored}
use Rattle.arena.specs.declared.Node as arena
use Rattle.child_lists.specs.Append.{CanAppend, CanLink, shallow_with, header_stored, three_links, child_linked}
use Rattle.child_lists.proofs.AppendEncodable.{NumbersFit, accepted-addable, accepted-fits, append-encodable}
use Rattle.child_lists.proofs.AppendStores.{linkable, append-stores}

-- ---- In an arena that holds a graph

module _ (bs : List ℕ) (count : ℕ) (y : arena.Node) (path : List ℕ) (can : CanAppend bs count y path) (bytes : Bytes bs)
    (numbers : NumbersFit (node_of y path)) where
  abbrev before : Graph
  before = decode bs

  abbrev added : Node
  added = node_of y path

  counted : count ≡ size before
  counted = can.counted ∙ sym (size-decode bs (held bs can.opened.holds))

  addable : Addable before added
  addable = accepted-addable before added can.accepted

  encodable : Encodable before
  encodable = held-encodable bs bytes can.opened.whole can.opened.holds

  encodable-after : Encodable (with_node before added)
  encodable-after =
      append-encodable before added encodable (accepted-fits before added numbers can.accepted) can.accepted

  pub encode-append : encode (with_node before added) bs
      ≡ record_stored count y path (three_links count invalid invalid invalid (child_linked y.parent.0 count
      (header_stored count y.arc (shallow_with count y.parent.0 y.depth bs) bs)))
  encode-append =
      append-stores before added bs encodable encodable-after addable can.opened.whole (encode-decode bs bytes can.opened.whole can.opened.holds)
      ∙ (λ i. stored (slot_at (sym counted i) + 16) (sym can.named i ∷ record_bytes added)
      (three_links (sym counted i) invalid invalid invalid (child_linked y.parent.0 (sym counted i)
      (header_stored (sym counted i) y.arc (shallow_with (sym counted i) y.parent.0 y.depth bs) bs))))

  -- ---- What the stores ask

  pub count-below : count < 1024
  count-below = omega (arith, counted, addable.node-fits)

  pub parent-below : 0 < count → y.parent.0 < 1024
  parent-below some = omega (arith, counted, addable.node-fits, addable.parent-lower (omega (arith, counted)))

  pub path-short : length path ≤ 255
  path-short = (accepted-fits before added numbers can.accepted).path-short

  pub can-link : CanLink (header_stored count y.arc (shallow_with count y.parent.0 y.depth bs) bs) y.parent.0 count
  can-link =
      subst (λ (k : ℕ). CanLink (header_stored k y.arc (shallow_with k y.parent.0 y.depth bs) bs) y.parent.0 k) (sym counted)
      (linkable before added bs encodable encodable-after addable can.opened.whole (encode-decode bs bytes can.opened.whole can.opened.holds))
