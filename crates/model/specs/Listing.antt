-- Document 01, "Snapshot": the text that the command `order` prints.
use Rattle.std.specs.Prelude.{cond, List, [], ◌∷◌, ◌++◌, ℕ, zero, suc, ◌+◌, ◌/◌, ◌%◌, ltb, get_or}
use Rattle.model.specs.Node.{Node}
use Rattle.model.specs.Graph.{Graph, size, node_at}

-- the digits of a number, at most k of them
abbrev pub digits_up_to : ℕ → ℕ → List ℕ
digits_up_to zero n = []
digits_up_to (suc k) n = cond (ltb n 10) ((0x30 + n) ∷ []) (digits_up_to k (n / 10) ++ ((0x30 + n % 10) ∷ []))

-- a number of at most 20 digits, in decimal
abbrev pub decimal : ℕ → List ℕ
decimal n = digits_up_to 20 n

-- "The seven letters are L I V E R P S in that order"
abbrev pub arc_letters : List ℕ
arc_letters = 0x4c ∷ 0x49 ∷ 0x56 ∷ 0x45 ∷ 0x52 ∷ 0x50 ∷ 0x53 ∷ []

-- "number, arc letter, depth, path"
abbrev pub node_line : ℕ → Node → List ℕ
node_line n x = decimal n ++ (0x20 ∷ get_or arc_letters x.arc 0 ∷ 0x20 ∷ decimal x.depth ++ (0x20 ∷ x.path ++ (0xa ∷ [])))

abbrev pub node_lines : List Node → List ℕ → List ℕ
node_lines ns [] = []
node_lines ns (n ∷ order) = node_line n (node_at ns n) ++ node_lines ns order

-- "prints `order` and the count, then" a line for each node, in the graph's order
unfoldable pub listing : Graph → List ℕ
listing g = 0x6f ∷ 0x72 ∷ 0x64 ∷ 0x65 ∷ 0x72 ∷ 0x20 ∷ decimal (size g) ++ (0xa ∷ node_lines g.nodes g.order)
