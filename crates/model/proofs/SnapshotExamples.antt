-- Document 01's empty snapshot, a small graph written and read back, and bytes that are refused, by
-- computation. Assumes nothing.
use Prim.Native.Nat.{ℕ, ◌+◌}
use mathlib.Core.Path.{◌≡◌, refl}
use mathlib.Core.List.{List, [], ◌∷◌, ◌++◌, map}
use lib.ListN.{replicate}
use Rattle.model.specs.Path.{is_name_start, is_word_byte, is_selection_byte, well_formed, prim_count}
use Rattle.model.specs.Node.{Node}
use Rattle.model.specs.Graph.{Graph, empty_graph, with_node}
use Rattle.model.specs.Snapshot.{big_endian, record_body, write_snapshot, read_record, read_records, read_snapshot}
use Rattle.model.specs.Calls.{root_node, read_into}
use Rattle.model.proofs.Text.{bytes}

-- "Empty graph: `00 00 00 03 01 00 00`"
empty-written : write_snapshot empty_graph ≡ 0 ∷ 0 ∷ 0 ∷ 3 ∷ 1 ∷ 0 ∷ 0 ∷ []
unfolding write_snapshot
empty-written = refl

empty-read : (old : Graph) → read_into (0 ∷ 0 ∷ 0 ∷ 3 ∷ 1 ∷ 0 ∷ 0 ∷ []) old ≡ record { refused = 0; value = 0; graph = empty_graph }
unfolding read_into read_snapshot read_records
empty-read old = refl

-- ---- A graph of two nodes

-- a Reference `/R` under the root `/M`, with numbers that fill their fields
abbrev pub reference : Node
reference = record {
  arc = 4;
  flags = 255;
  stack = 4294967295;
  layer = 16909060;
  parent = 0;
  origin = 0;
  depth = 65535;
  sibling = 258;
  restriction = 1;
  spec_from = 2;
  has_specs = 0;
  path = bytes "/R";
}

abbrev pub two : Graph
two = with_node (with_node empty_graph (root_node 0 0 (bytes "/M"))) reference

two-written : write_snapshot two
    ≡ 0 ∷ 0 ∷ 0 ∷ 65 ∷ 1 ∷ 0 ∷ 2
    ∷ 0 ∷ 29 ∷ 0 ∷ 1 ∷ 0 ∷ 0 ∷ 0 ∷ 0 ∷ 0 ∷ 0 ∷ 0 ∷ 0 ∷ 255 ∷ 255 ∷ 255 ∷ 255 ∷ 255 ∷ 255 ∷ 255 ∷ 255 ∷ 0 ∷ 1 ∷ 0 ∷ 0 ∷ 0 ∷ 0 ∷ 0 ∷ 0 ∷ 1 ∷ 47 ∷ 77
    ∷ 0 ∷ 29 ∷ 4 ∷ 255 ∷ 255 ∷ 255 ∷ 255 ∷ 255 ∷ 1 ∷ 2 ∷ 3 ∷ 4 ∷ 0 ∷ 0 ∷ 0 ∷ 0 ∷ 0 ∷ 0 ∷ 0 ∷ 0 ∷ 255 ∷ 255 ∷ 1 ∷ 2 ∷ 0 ∷ 1 ∷ 0 ∷ 2 ∷ 0 ∷ 47 ∷ 82 ∷ []
unfolding write_snapshot record_body with_node prim_count is_name_start is_word_byte is_selection_byte
two-written = refl

two-read : (old : Graph) → read_into (write_snapshot two) old ≡ record { refused = 0; value = 2; graph = two }
unfolding read_into read_snapshot read_records read_record write_snapshot record_body with_node prim_count well_formed is_name_start is_word_byte is_selection_byte
two-read old = refl

-- ---- Refusals

abbrev refused_by : List ℕ → ℕ
refused_by bs = (read_into bs empty_graph).refused

-- a snapshot whose one record says that n bytes follow, and they do: zeros
abbrev zeros : ℕ → List ℕ
zeros n = big_endian 4 (5 + n) ++ (1 ∷ 0 ∷ 1 ∷ (big_endian 2 n ++ replicate n 0))

-- a byte too many, uncounted and counted; a byte too few; a node too many; versions 0 and 2;
-- records of 27 and 283 bytes
not-exact : map refused_by
    ((0 ∷ 0 ∷ 0 ∷ 3 ∷ 1 ∷ 0 ∷ 0 ∷ 0 ∷ []) ∷ (0 ∷ 0 ∷ 0 ∷ 4 ∷ 1 ∷ 0 ∷ 0 ∷ 0 ∷ []) ∷ (0 ∷ 0 ∷ 0 ∷ 3 ∷ 1 ∷ 0 ∷ []) ∷ (0 ∷ 0 ∷ 0 ∷ 3 ∷ 1 ∷ 0 ∷ 1 ∷ [])
    ∷ (0 ∷ 0 ∷ 0 ∷ 3 ∷ 0 ∷ 0 ∷ 0 ∷ []) ∷ (0 ∷ 0 ∷ 0 ∷ 3 ∷ 2 ∷ 0 ∷ 0 ∷ []) ∷ zeros 27 ∷ zeros 283 ∷ [])
    ≡ 12 ∷ 12 ∷ 12 ∷ 12 ∷ 12 ∷ 12 ∷ 12 ∷ 12 ∷ []
unfolding read_into read_snapshot read_records
not-exact = refl

-- records 0 of 28 and 282 bytes that are not INERT, and one that is a Reference: "a wrong record 0
-- .. is 4"
wrong-record-zero : map refused_by (zeros 28 ∷ zeros 282 ∷ write_snapshot (with_node empty_graph reference) ∷ []) ≡ 4 ∷ 4 ∷ 4 ∷ []
unfolding read_into read_snapshot read_records read_record write_snapshot record_body with_node
wrong-record-zero = refl
