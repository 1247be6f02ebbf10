-- Document 01, "Cull marks and erasable set": the erase set as question 11 reads it, and erasing.
use Rattle.std.specs.Prelude.{Bool, not, ◌||◌, ◌&&◌, cond, List, [], ◌∷◌, map, ℕ, zero, suc, ◌+◌, eqb, ltb, leb, get_or}
use Rattle.model.specs.Lists.{bit, filter, keep_at, all_below}
use Rattle.model.specs.Node.{root_arc, Node, changed}
use Rattle.model.specs.Graph.{Graph, size, node_at}
use Rattle.model.specs.Culling.{is_erasable}

-- "a byte a node, 1 goes, 0 stays": bytes from the count on are not read
abbrev pub stays : List ℕ → ℕ → Bool
stays bytes n = eqb (get_or bytes n 0) 0

-- the byte of each number below n from `at` on
abbrev pub bytes_from : (ℕ → Bool) → ℕ → ℕ → List ℕ
bytes_from goes at zero = []
bytes_from goes at (suc n) = bit (goes at) ∷ bytes_from goes (suc at) n

-- "The set is written as question 11 reads it, with 0 from the count on": 1,024 bytes
unfoldable pub erasable : Graph → List ℕ
erasable g = bytes_from (λ n. ltb n (size g) && is_erasable g.nodes n) 0 1024

-- question 11: "none other below the count", "spare Root arcs and every kept node's parent and
-- origin"
abbrev pub spares_one : Graph → List ℕ → ℕ → Bool
spares_one g bytes n =
    leb (get_or bytes n 0) 1
    && (not (stays bytes n)
    || (eqb n 0 || (stays bytes (node_at g.nodes n).parent && stays bytes (node_at g.nodes n).origin)))
    && (stays bytes n || not (eqb (node_at g.nodes n).arc root_arc))

unfoldable pub can_erase : Graph → List ℕ → Bool
can_erase g bytes = all_below (spares_one g bytes) (size g)

-- "`erase` renumbers the kept in order": the new number of a kept n is how many are kept below it
abbrev pub new_number : (ℕ → Bool) → ℕ → ℕ
new_number kept zero = 0
new_number kept (suc n) = bit (kept n) + new_number kept n

-- node 0 keeps no parent and no origin
abbrev pub new_link : (ℕ → Bool) → ℕ → ℕ → ℕ
new_link kept count n = cond (ltb n count) (new_number kept n) n

abbrev pub renumbered : (ℕ → Bool) → ℕ → Node → Node
renumbered kept count x = changed x.flags (new_link kept count x.parent) (new_link kept count x.origin) x.path x

-- "chains lose only what went"; the order too; the marks stay
unfoldable pub erase_by : (ℕ → Bool) → Graph → Graph
erase_by kept g = record {
  nodes = map (renumbered kept (size g)) (keep_at kept g.nodes);
  children = map (λ l. map (new_number kept) (filter kept l)) (keep_at kept g.children);
  order = map (new_number kept) (filter kept g.order);
  ordered = g.ordered;
  finalized = g.finalized;
  shallow = g.shallow;
}

abbrev pub erase : List ℕ → Graph → Graph
erase bytes g = erase_by (stays bytes) g
