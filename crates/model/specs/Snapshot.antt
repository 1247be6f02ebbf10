-- Document 01, "Snapshot": how a graph is written as bytes, and how bytes are read as records
-- (question 12). The questions that each record is put are in Refusals.antt.
use Rattle.std.specs.Prelude.{None, Option, Some}
use Rattle.std.specs.Prelude.{Bool, ◌&&◌, cond, List, [], ◌∷◌, ◌++◌, ℕ, zero, suc, ◌+◌, ◌*◌, ◌/◌, ◌%◌, ◌^◌, eqb, leb, length, take, drop}
use Rattle.model.specs.Node.{Node}
use Rattle.model.specs.Graph.{Graph, size}

-- ---- "Big-endian", at any width

abbrev pub big_endian : ℕ → ℕ → List ℕ
big_endian zero n = []
big_endian (suc w) n = (n / 256 ^ w % 256) ∷ big_endian w n

abbrev pub value_from : ℕ → List ℕ → ℕ
value_from n [] = n
value_from n (b ∷ bs) = value_from (n * 256 + b) bs

abbrev pub value : List ℕ → ℕ
value bs = value_from 0 bs

-- ---- Writing

-- "arc, flags, stack, layer, parent, origin, depth, sibling number, restriction, spec_from,
-- has-specs (0 or 1), path. Numbers have the widths above, arc and has-specs one byte."
unfoldable pub record_body : Node → List ℕ
record_body x =
    big_endian 1 x.arc ++ (big_endian 1 x.flags ++ (big_endian 4 x.stack ++ (big_endian 4 x.layer
    ++ (big_endian 4 x.parent ++ (big_endian 4 x.origin ++ (big_endian 2 x.depth ++ (big_endian 2 x.sibling
    ++ (big_endian 2 x.restriction ++ (big_endian 2 x.spec_from ++ (big_endian 1 x.has_specs ++ x.path))))))))))

-- "per node 2 bytes with the length of the rest of its record"
abbrev pub record_bytes : Node → List ℕ
record_bytes x = big_endian 2 (length (record_body x)) ++ record_body x

abbrev pub records_bytes : List Node → List ℕ
records_bytes [] = []
records_bytes (x ∷ xs) = record_bytes x ++ records_bytes xs

-- "version byte 1, node count in 2 bytes; then" the records
abbrev pub snapshot_body : Graph → List ℕ
snapshot_body g = 1 ∷ (big_endian 2 (size g) ++ records_bytes g.nodes)

-- "4 bytes counting all that follow"
unfoldable pub write_snapshot : Graph → List ℕ
write_snapshot g = big_endian 4 (length (snapshot_body g)) ++ snapshot_body g

-- ---- Reading: "The reader takes each field or stops at the first that is missing"

-- w bytes from `at` on
abbrev pub field : ℕ → ℕ → List ℕ → ℕ
field at w bs = value (take w (drop at bs))

-- the rest of a record, of at least 28 bytes
unfoldable pub read_record : List ℕ → Node
read_record bs = record {
  arc = field 0 1 bs;
  flags = field 1 1 bs;
  stack = field 2 4 bs;
  layer = field 6 4 bs;
  parent = field 10 4 bs;
  origin = field 14 4 bs;
  depth = field 18 2 bs;
  sibling = field 20 2 bs;
  restriction = field 22 2 bs;
  spec_from = field 24 2 bs;
  has_specs = field 26 1 bs;
  path = drop 27 bs;
}

-- "2 bytes with the length of the rest of its record (28 to 282, else question 12 fails)"
abbrev pub fits_record : List ℕ → Bool
fits_record bs = leb 2 (length bs) && (leb 28 (field 0 2 bs) && (leb (field 0 2 bs) 282 && leb (2 + field 0 2 bs) (length bs)))

abbrev pub before : Node → Option (List Node) → Option (List Node)
before x None = None
before x (Some xs) = Some (x ∷ xs)

-- n records, and nothing behind them
unfoldable pub read_records : ℕ → List ℕ → Option (List Node)
read_records zero [] = Some []
read_records zero (b ∷ bs) = None
read_records (suc n) bs =
    cond (fits_record bs) (before (read_record (take (field 0 2 bs) (drop 2 bs))) (read_records n (drop (2 + field 0 2 bs) bs))) None

-- question 12: "Are version, count and lengths exact?"
unfoldable pub read_snapshot : List ℕ → Option (List Node)
read_snapshot bs =
    cond (leb 7 (length bs) && (eqb (4 + field 0 4 bs) (length bs) && eqb (field 4 1 bs) 1)) (read_records (field 5 2 bs) (drop 7 bs)) None
