-- Arenas by computation: all zero bytes hold the empty graph; which marks an arena without a node
-- may have; the listing of document 01, ordered, is held by the bytes that it is encoded in, and
-- read back as it was; and bytes that hold no graph. The arenas here are as long as their graphs
-- need. Assumes nothing.
use mathlib.Core.Path.{◌≡◌, refl}
use mathlib.Core.Bool.{true, false}
use mathlib.Core.List.{List, [], ◌∷◌, ◌++◌}
use Prim.Native.Nat.{ℕ, ◌+◌}
use lib.ListN.{replicate}
use Rattle.model.specs.Bytes.{stored}
use Rattle.model.specs.Path.{is_name_start, is_word_byte, is_selection_byte, well_formed, prim_count}
use Rattle.model.specs.Graph.{Graph, empty_graph, with_node, is_local_root}
use Rattle.model.specs.Strength.{arc_rank, smaller, plain_lines, sibling_lines, nodes_by, compare_sibling_node_strength}
use Rattle.model.specs.Order.{is_stronger, has_order, ordering}
use Rattle.model.specs.Snapshot.{big_endian, record_body, read_record}
use Rattle.model.specs.Calls.{orders, init_root, add_child, finalize_strength_order}
use Rattle.model.specs.Arena.{decode, encode, slot_at, holds_graph}
use Rattle.model.proofs.ExampleGraphs.{from, four}

-- a header and four slots
abbrev zeros : List ℕ
zeros = replicate 1344 0

abbrev listed : Graph
listed = from (four ++ orders ∷ [])

abbrev arena : List ℕ
arena = encode listed zeros

-- no node, and these marks
abbrev empty : ℕ → ℕ → ℕ → List ℕ
empty ordered finalized shallow = stored 4 (ordered ∷ finalized ∷ shallow ∷ []) zeros

-- "finalized only if ordered and not shallow", and each mark a byte 0 or 1
pub record EmptyArenas : Type 0 where
  pub ordered : holds_graph (empty 1 0 0) ≡ true
  pub finalized : holds_graph (empty 0 1 0) ≡ false
  pub shallow : holds_graph (empty 0 0 1) ≡ true
  pub ordered-finalized : holds_graph (empty 1 1 0) ≡ true
  pub ordered-shallow : holds_graph (empty 1 0 1) ≡ true
  pub finalized-shallow : holds_graph (empty 0 1 1) ≡ false
  pub all-marks : holds_graph (empty 1 1 1) ≡ false
  pub other-bytes : (holds_graph (empty 2 0 0) ≡ false) × (holds_graph (empty 1 2 0) ≡ false) × (holds_graph (empty 0 0 2) ≡ false)
  -- the order of no node
  pub no-order : (decode (empty 1 0 0)).order ≡ []

empty-arenas : EmptyArenas
unfolding decode stored holds_graph
empty-arenas = record {
  ordered = refl;
  finalized = refl;
  shallow = refl;
  ordered-finalized = refl;
  ordered-shallow = refl;
  finalized-shallow = refl;
  all-marks = refl;
  other-bytes = (refl, refl, refl);
  no-order = refl;
}

pub record Arenas : Type 0 where
  pub zeros-empty : decode zeros ≡ empty_graph
  pub zeros-hold : holds_graph zeros ≡ true
  pub listed-holds : holds_graph arena ≡ true
  pub listed_back : decode arena ≡ listed
  -- a next sibling that leads back, an origin that is not lower, a node twice in the order, a prim
  -- count off by one, a wrong local root
  pub cyclic-chain : holds_graph (stored (slot_at 2 + 8) (big_endian 4 3) arena) ≡ false
  pub high_origin : holds_graph (stored (slot_at 2 + 33) (big_endian 4 2) arena) ≡ false
  pub order-twice : holds_graph (stored (slot_at 2 + 12) (big_endian 4 1) arena) ≡ false
  pub wrong-prim-count : holds_graph (stored (slot_at 2 + 16) (2 ∷ []) arena) ≡ false
  pub wrong-local-root : holds_graph (stored 8 (big_endian 4 2) arena) ≡ false

arenas : Arenas
unfolding init_root add_child finalize_strength_order with_node well_formed prim_count is_name_start is_word_byte is_selection_byte is_local_root arc_rank smaller
    plain_lines sibling_lines nodes_by compare_sibling_node_strength has_order ordering is_stronger record_body read_record decode stored encode holds_graph
arenas = record {
  zeros-empty = refl;
  zeros-hold = refl;
  listed-holds = refl;
  listed_back = refl;
  cyclic-chain = refl;
  high_origin = refl;
  order-twice = refl;
  wrong-prim-count = refl;
  wrong-local-root = refl;
}
